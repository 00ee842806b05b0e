-- The numbers of the refusals. Assumes nothing.
use Rattle.std.specs.Prelude.{ℕ}
use Rattle.fabric.specs.declared.refusal.Refusal.{Refusal}
use Rattle.fabric.specs.declared.refusal.Refusal.TheVariants.{NoNodes, Depth, Slots, OpenedBefore, NotOpen, Source, Destination, PacketLimit, Full, ShortTrace, CycleLimit, NotClosed}

abbrev pub refusal_number : Refusal → ℕ
refusal_number NoNodes = 1
refusal_number Depth = 2
refusal_number Slots = 3
refusal_number OpenedBefore = 4
refusal_number NotOpen = 5
refusal_number Source = 6
refusal_number Destination = 7
refusal_number PacketLimit = 8
refusal_number Full = 9
refusal_number ShortTrace = 10
refusal_number CycleLimit = 11
refusal_number NotClosed = 12
