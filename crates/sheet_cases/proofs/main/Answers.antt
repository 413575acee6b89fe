-- `sheet_cases::main` is safe: what it lends for the file and for a sheet is as long as it says.
use Rattle.std.proofs.Common.{ℕ, sym}
use Rattle.std.proofs.lemmas.List.{length-replicate}
use Rattle.sheet_cases.proofs.main.Goals as goal

pub slice_bounds-read_full-end : goal.slice_bounds-read_full-end
slice_bounds-read_full-end c = sym (length-replicate {0} {A = ℕ} 131072 0)

pub slice_bounds-answer_all-end-2 : goal.slice_bounds-answer_all-end-2
slice_bounds-answer_all-end-2 c = sym (length-replicate {0} {A = ℕ} 524288 0)
