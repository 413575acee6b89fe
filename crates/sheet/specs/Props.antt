-- What a sheet keeps has one proof at most, so that a struct may hold it as a ghost field.
use denote.Struct.Props as logic
use Rattle.calendar.specs.Props as calendar

pub ruleset props = (calendar.props, logic.props)
