-- The numbers of the refusals. Assumes nothing.
use Rattle.std.specs.Prelude.{ℕ}
use Rattle.relabelling.specs.declared.refusal.LabellingRefusal.{LabellingRefusal}
use Rattle.relabelling.specs.declared.refusal.LabellingRefusal.TheVariants.{Count, Outside, Repeated}

abbrev pub refusal_number : LabellingRefusal → ℕ
refusal_number (Count count) = 13
refusal_number (Outside label position) = 14
refusal_number (Repeated first second) = 15
