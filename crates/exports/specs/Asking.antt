-- What is told of a model.
use Rattle.std.specs.Prelude.{◌≡◌, true, false, Some, None, Option}
use Rattle.exports.specs.declared.asking.Question.{Question}
use Rattle.exports.specs.declared.asking.Told.{Told}
use Rattle.transitions.specs.Lts.{Lts}
use Rattle.transitions.specs.declared.steps.Step.{Step}

-- The step, and 0 where there is none.
abbrev pub Shows : Option Step → Told → Type 0
Shows None a = (a.steps ≡ false) × (a.action ≡ 0) × (a.target ≡ 0)
Shows (Some x) a = (a.steps ≡ true) × (a.action ≡ x.action) × (a.target ≡ x.target)

-- The five answers of a model to a question.
pub record Tells (M : Lts) (q : Question) (a : Told) : Type 0 where
  pub states : a.states ≡ M.states
  pub start : a.start ≡ M.start
  pub width : a.width ≡ M.width
  pub may_end : a.ends ≡ M.ends q.state
  pub shown : Shows (M.step q.state q.place) a
