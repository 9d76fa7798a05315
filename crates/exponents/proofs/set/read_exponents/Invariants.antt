use Rattle.std.proofs.Common.{◌-◌}
use Rattle.syntax.specs.Records.{part_of}
use Rattle.syntax.specs.Rooms.{room_of, SameSlices}
use Rattle.exponents.specs.Exponents.{size_of}
use Rattle.exponents.proofs.SetLaws.{Standing, rest}
use Rattle.exponents.proofs.set.read_exponents.Given as goal

abbrev pub invariant-loop : goal.invariant-loop
invariant-loop l =
    Standing l.src l.limit.0 (part_of l.set.label) l.set.slot (size_of l.set.strategy)
    (rest l.src l.limit.0 (part_of l.set.label) l.set.slot (size_of l.set.strategy) l.left l.initial.bin l.initial.prev l.initial.exps l.initial.here.at.0 l.initial.here.count (room_of l.initial.room))
    l.initial.exps (l.left - l.counter) l.bin l.prev l.exps l.here.at.0 l.here.count (room_of l.room)
    × SameSlices l.initial.room l.room
