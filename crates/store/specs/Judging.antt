-- What the test of a store looks at. Together it is the model's `is_store` (JudgeLaws).
use Rattle.std.specs.Prelude.{Bool, ◌&&◌, List, ℕ}
use Rattle.model.specs.Lists.{same_list}
use Rattle.model.specs.Store.{is_state, place_in, place_of}

-- a place holds: read and written again it is the same, and its state is a graph
unfoldable pub place_holds : ℕ → List ℕ → Bool
place_holds n w = same_list w (place_of n (place_in n w)) && is_state (place_in n w)
