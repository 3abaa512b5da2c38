-- What the exported release sets and leaves, as the model's record of it.
use Rattle.std.specs.Prelude.{List, ℕ}
use Rattle.model.specs.Calls.{Released}

abbrev pub released_with : ℕ → ℕ → ℕ → ℕ → ℕ → List ℕ → Released
released_with r m g s bytes out = record { result = r; nodes = m; groups = g; superedges = s; bytes = bytes; out = out }
