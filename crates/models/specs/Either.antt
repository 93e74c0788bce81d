-- A model of one of two kinds keeps the limits where both kinds do.
use Rattle.either.specs.declared.Either.{Either}
use Rattle.either.specs.declared.Either.TheVariants.{Left, Right}
use Rattle.either.specs.Either.{either}
use Rattle.transitions.specs.Lts.{Lts, Lawful}

pub either_lawful : {A B : Type 0} {first : A → Lts} {second : B → Lts} → ((a : A) → Lawful (first a)) → ((b : B) → Lawful (second b)) → (m : Either A B) → Lawful (either first second m)
either_lawful of-first of-second (Left a) = of-first a
either_lawful of-first of-second (Right b) = of-second b
