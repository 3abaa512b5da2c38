-- The lines of a release, told by its file alone.
use Rattle.std.specs.Prelude.{List, [], ◌∷◌, ◌++◌, map, ℕ, suc, zero, ◌+◌, ◌*◌, length, get_or, drop}
use Rattle.model.specs.Lists.{concat}
use Rattle.model.specs.Program.{open_line, spaced, superedge_line, text}
use Rattle.model.specs.Reading.{after_groups, superedges_at, u16_at, u16s}

-- no output is longer
abbrev pub max_text : ℕ
max_text = 131072

-- k numbers, each after a space
unfoldable pub member_texts : ℕ → List ℕ → List ℕ
member_texts k s = concat (map spaced (u16s k s))

-- the line of the group record at the front: `I` or `C`, as in the file, and the members
unfoldable pub group_text : List ℕ → List ℕ
group_text s = get_or s 1 0 ∷ (member_texts (u16_at s 2) (drop 6 s) ++ text "\n")

-- the place after the group record at p
unfoldable pub next_group : List ℕ → ℕ → ℕ
next_group s p = p + 6 + 2 * u16_at s (p + 2)

-- the lines of k group records
unfoldable pub group_texts : ℕ → List ℕ → List ℕ
group_texts zero s = []
group_texts (suc k) s = group_text s ++ group_texts k (drop (2 * u16_at s 2) (drop 6 s))

-- the lines of superedge records, at most k
unfoldable pub superedge_texts : ℕ → List ℕ → List ℕ
superedge_texts k s = concat (map superedge_line (superedges_at k s))

-- the superedge records after the groups
unfoldable pub superedge_part : List ℕ → List ℕ
superedge_part s = after_groups (u16_at s 6) (drop 8 s)

unfoldable pub superedges_in : List ℕ → ℕ
superedges_in s = length (superedges_at (length s) (superedge_part s))

-- m, g and s, the groups, the superedges
unfoldable pub file_text : List ℕ → List ℕ
file_text s =
    open_line (u16_at s 4) (u16_at s 6) (superedges_in s) ++ (group_texts (u16_at s 6) (drop 8 s) ++ superedge_texts (length s) (superedge_part s))
