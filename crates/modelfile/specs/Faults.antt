-- The number of each refusal.
use Rattle.std.specs.Prelude.{ℕ}
use Rattle.modelfile.specs.declared.faults.Fault.{Fault}
use Rattle.modelfile.specs.declared.faults.Fault.TheVariants.{TooLong, NoForm, NoValue, OutOfTurn, OverLimit, WrongNumber, SilentUsed, SaidBefore, TooMany, NotAssociative, SilentRing, WrongEnd}

abbrev pub number_of : Fault → ℕ
number_of TooLong = 1
number_of NoForm = 2
number_of NoValue = 3
number_of OutOfTurn = 4
number_of OverLimit = 5
number_of WrongNumber = 6
number_of SilentUsed = 7
number_of SaidBefore = 8
number_of TooMany = 9
number_of NotAssociative = 10
number_of SilentRing = 11
number_of WrongEnd = 12
