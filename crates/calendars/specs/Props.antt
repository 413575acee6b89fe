-- What a sheet with its calendars keeps has one proof at most, so that a struct may hold it as a ghost field.
use denote.Struct.Props as logic

pub ruleset props = logic.props
