-- The text told by a release file is the text of the release.
use Rattle.std.specs.Prelude.{◌≡◌, List, [], ◌∷◌, ◌++◌, map, ℕ, length, drop}
use Rattle.std.proofs.Math.Path.{refl}
use Rattle.std.proofs.Common.{ap, ap₂, ◌∙◌, append_assoc}
use native.Mathlib.Omega.{arith}
use Rattle.model.specs.Graph.{Graph, View, empty_graph}
use Rattle.model.specs.Lists.{concat}
use Rattle.model.specs.Program.{accepted, change_lines, group_line, open_line, printed, release_lines, superedge_line}
use Rattle.model.specs.Reading.{u16_at}
use Rattle.model.proofs.ReadingLaws.{body, count_back, groups_after, next, superedges_back, u16s_back}
use Rattle.model.specs.Release.{encode, end_record, group_record, head_record, release, superedge_record, superedges, u16, visible, visible_groups}
use Rattle.model.proofs.ReleaseLaws.{length-encode}
use Rattle.model.specs.Updates.{Update, answers, batch_graph}
use Rattle.print.specs.Lines.{file_text, group_text, group_texts, member_texts, superedge_part, superedge_texts, superedges_in}

group-text : (v : View) (g r : List ℕ) → group_text (group_record v g ++ r) ≡ group_line v.edge g
unfolding group_text member_texts group_line
group-text v g r = rw (count_back v g r, body v g r, u16s_back g r) (unfold group_record in refl)

group_texts_lem : (v : View) (gs : List (List ℕ)) (r : List ℕ) → group_texts (length gs) (concat (map (group_record v) gs) ++ r) ≡ concat (map (group_line v.edge) gs)
unfolding group_texts concat
group_texts_lem v [] r = refl
group_texts_lem v (g ∷ gs) r =
    rw (append_assoc (group_record v g) (concat (map (group_record v) gs)) r)
    (ap₂ ◌++◌ (group-text v g rest) (ap (group_texts (length gs)) (next v g rest) ∙ group_texts_lem v gs r))
  where
    rest : List ℕ
    rest = concat (map (group_record v) gs) ++ r

encode-text : (n : ℕ) (v : View) (gs : List (List ℕ))
    → file_text (encode n v gs) ≡ open_line (length v.nodes) (length gs) (length (superedges v.edge 0 gs)) ++ (concat (map (group_line v.edge) gs) ++ concat (map superedge_line (superedges v.edge 0 gs)))
unfolding file_text superedge_texts superedges_in superedge_part
encode-text n v gs = rw (at-m, at_g, rest, groups_after v gs tail, superedges_back (superedges v.edge 0 gs) (length s) (omega (arith, length-encode n v gs)), group_texts_lem v gs tail)
  where
    s : List ℕ
    s = encode n v gs

    tail : List ℕ
    tail = concat (map superedge_record (superedges v.edge 0 gs)) ++ end_record

    at-m : u16_at s 4 ≡ length v.nodes
    at-m = unfold encode head_record u16_at u16 in omega arith

    at_g : u16_at s 6 ≡ length gs
    at_g = unfold encode head_record u16_at u16 in omega arith

    rest : drop 8 s ≡ concat (map (group_record v) gs) ++ tail
    rest = unfold encode head_record u16 in refl

pub release-text : (g : Graph) → file_text (release g) ≡ release_lines g
unfolding release release_lines visible_groups
release-text g = encode-text g.node_count (visible g) (visible_groups g)

-- what is printed of an accepted input
pub accepted-text : (n : ℕ) (cs : List Update) → change_lines 1 (answers (empty_graph n) cs) ++ file_text (release (batch_graph (empty_graph n) cs)) ≡ printed (accepted n cs)
unfolding printed
accepted-text n cs = rw (release-text (batch_graph (empty_graph n) cs))
