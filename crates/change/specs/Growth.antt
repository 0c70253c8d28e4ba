-- Rows of changes that only add work, or only take work away, and what they do to loads. Assumes nothing: these are definitions.
use Rattle.std.specs.Prelude.{ℕ, List}
use Rattle.std.specs.List.{AllByRecursion}
use Rattle.even.specs.Day.{Day, Plan, Even}
use Rattle.even.specs.More.{NoMore}
use Rattle.change.specs.declared.kinds.Change.{Change}
use Rattle.change.specs.declared.kinds.Change.TheVariants.{Comes, Goes, More}

-- a change that adds work: a task comes, or needs more
abbrev pub Adds : Change → Type 0
Adds (Comes t) = Unit {0}
Adds (Goes j) = ⊥
Adds (More j u) = Unit {0}

-- a change that takes work away: a task goes
abbrev pub Takes : Change → Type 0
Takes (Comes t) = ⊥
Takes (Goes j) = Unit {0}
Takes (More j u) = ⊥

-- each change of a row does
abbrev pub OnlyAdds : List Change → Type 0
OnlyAdds cs = AllByRecursion Adds cs

abbrev pub OnlyTakes : List Change → Type 0
OnlyTakes cs = AllByRecursion Takes cs

-- day y is no heavier than day w: no hour has more load on y than on w, by even plans x and z, in parts of 1 / d and of 1 / e
abbrev pub NoHeavier : Day → Day → Type 0
NoHeavier y w =
    (d e : ℕ) (x z : ℕ → ℕ → ℕ) → Plan y d x → Even y x → Plan w e z → Even w z → NoMore y d x w e z
