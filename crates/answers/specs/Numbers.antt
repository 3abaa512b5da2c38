-- The numbers that document 01 gives for the cases of an answer.
use Rattle.std.specs.Prelude.{ℕ, Result, Ok, Err}
use Rattle.model.specs.Grouping.{singleton, independent, clique}
use Rattle.model.specs.Grouping as model
use Rattle.answers.specs.declared.Refusal.{Refusal}
use Rattle.answers.specs.declared.Refusal.TheVariants.{WrongSize, NoGraph, NoKind, NoNode, WrongValue, AlreadyHolds, ShortBuffer, NoRelease, OtherSize, NotKept, AlreadyKept, StoreFull, Frozen}
use Rattle.answers.specs.declared.Kind.{Kind}
use Rattle.answers.specs.declared.Kind.TheVariants.{Singleton, Independent, Clique}

-- why a call or an update is refused
abbrev pub number : Refusal → ℕ
number WrongSize = 11
number NoGraph = 12
number NoKind = 13
number NoNode = 14
number WrongValue = 15
number AlreadyHolds = 16
number ShortBuffer = 18
number NoRelease = 19
number OtherSize = 20
number NotKept = 21
number AlreadyKept = 22
number StoreFull = 23
number Frozen = 24

-- a call's number: 0 where it was done
abbrev pub code : {A : Type 0} → Result A Refusal → ℕ
code (Ok _) = 0
code (Err refusal) = number refusal

-- what a call returns beside its number: what stands for nothing, where it is refused
abbrev pub value_or : {A : Type 0} → A → Result A Refusal → A
value_or none (Ok value) = value
value_or none (Err _) = none

-- a kind of group, as the model has it
abbrev pub kind_told : Kind → model.Kind
kind_told Singleton = singleton
kind_told Independent = independent
kind_told Clique = clique
