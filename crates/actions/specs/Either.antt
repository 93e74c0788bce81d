-- A communication of one of two kinds keeps the three laws where both kinds do.
use Rattle.either.specs.declared.Either.{Either}
use Rattle.either.specs.declared.Either.TheVariants.{Left, Right}
use Rattle.either.specs.Either.{either}
use Rattle.transitions.specs.Made.{Joins, Communication}

pub either_keeps : {A B : Type 0} {first : A → Joins} {second : B → Joins} → ((a : A) → Communication (first a)) → ((b : B) → Communication (second b)) → (c : Either A B) → Communication (either first second c)
either_keeps of-first of-second (Left a) = of-first a
either_keeps of-first of-second (Right b) = of-second b
