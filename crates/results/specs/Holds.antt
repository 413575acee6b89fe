-- What a row of the memory can hold of what is shown of an activity.
use Rattle.std.specs.Prelude.{◌<◌, ◌^◌}
use Rattle.results.specs.declared.Shown.{Shown}
use Rattle.results.specs.declared.Days.{Days}

pub record DaysHold (d : Days) : Type 0 where
  pub es : d.es < 2 ^ 63
  pub ef : d.ef < 2 ^ 63
  pub ls : d.ls < 2 ^ 63
  pub lf : d.lf < 2 ^ 63

pub record Holds (x : Shown) : Type 0 where
  pub days : DaysHold x.days
  pub free : x.free < 2 ^ 63
  pub finish : x.finish < 2 ^ 63
  pub late : x.late < 2 ^ 63
