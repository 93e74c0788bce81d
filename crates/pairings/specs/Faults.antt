-- The numbers of the refusals.
use Rattle.std.specs.Prelude.{ℕ}
use Rattle.pairings.specs.declared.faults.Fault.{Fault}
use Rattle.pairings.specs.declared.faults.Fault.TheVariants.{NoState, Short, NoSide, NoStep, Blank, Stands, Missing, Sizes}

-- 21 a state is not below its size; 22 the marks or the queue are shorter than the larger size; 23 the side is neither 0 nor
-- 1; 24 the place holds no step; 31 the sheet is blank or a judged model is empty; 32 the pair stands already; 33 it does not stand;
-- 34 the models' sizes are not the sheet's.
abbrev pub number : Fault → ℕ
number NoState = 21
number Short = 22
number NoSide = 23
number NoStep = 24
number Blank = 31
number Stands = 32
number Missing = 33
number Sizes = 34
