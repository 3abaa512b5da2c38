-- The place of a kind among the cases is its number in the model.
use Rattle.std.specs.Prelude.{◌≡◌, refl}
use Rattle.model.specs.Queries.{kind_number}
use Rattle.answers.specs.declared.Kind.{Kind}
use Rattle.answers.specs.declared.Kind.TheVariants.{Singleton, Independent, Clique}
use Rattle.answers.specs.contracts.Kind.{the_type}
use Rattle.answers.specs.Numbers.{kind_told}
use denote.Enum.Declared.{tag_of}

pub number_is : (kind : Kind) → tag_of the_type kind ≡ kind_number (kind_told kind)
unfolding kind_number
number_is Singleton = refl
number_is Independent = refl
number_is Clique = refl
