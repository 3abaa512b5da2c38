-- What measuring finds, and what `write` returns and leaves as the model's record.
use Rattle.std.specs.Prelude.{◌≡◌, List, ℕ, ◌≤◌, Result, Ok, Err, take}
use Rattle.model.specs.Calls.{Released, release_refused}
use Rattle.answers.specs.declared.Refusal.{Refusal}
use Rattle.answers.specs.Numbers.{number}
use Rattle.layout.specs.File.{file_groups, file_length, file_nodes, file_superedges, leaders_of}
use Rattle.layout.specs.Words.{LeaderSet}
use Rattle.writer.specs.declared.Sizes.{Sizes}
use Rattle.writer.specs.declared.Written.{Written}

-- a release by its numbers, or by document 01's number for why it is refused
abbrev pub released_by : Result Written Refusal → List ℕ → Released
released_by (Ok w) out = record { result = 0; nodes = w.nodes; groups = w.groups; superedges = w.superedges; bytes = w.bytes; out = out }
released_by (Err refusal) out = release_refused out (number refusal)

-- the leaders stand first in the list, and the numbers are the file's
pub record SizesTold (n : ℕ) (least edges leaders : List ℕ) (r : Sizes) : Type 0 where
  pub listed : take r.groups leaders ≡ leaders_of n least
  pub set_is : LeaderSet (leaders_of n least) r.set
  pub nodes_are : r.nodes ≡ file_nodes n least
  pub groups_are : r.groups ≡ file_groups n least
  pub superedges_are : r.superedges ≡ file_superedges n least edges
  pub bytes_are : r.bytes ≡ file_length n least edges
  pub nodes_fit : r.nodes ≤ 512
  pub groups_fit_lem : r.groups ≤ 512
  pub superedges_fit_lem : r.superedges ≤ 262144
  pub bytes_fit : r.bytes ≤ 2000000
