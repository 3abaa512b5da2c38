-- The groups of a release are the classes of similar nodes, each listed from its least member on.
use Rattle.std.specs.Prelude.{◌≡◌, true, false, ℕ, ◌≤◌, length}
use Rattle.std.proofs.Math.Path.{ap}
use Rattle.std.proofs.Common.{◌∙◌}
use mathlib.Core.List.{List, [], map}
use Rattle.std.proofs.Math.ListN.{get_or}
use Rattle.model.specs.Lists.{◌∈◌, head_or, nodes}
use Rattle.model.specs.Graph.{Graph, View, max_nodes}
use Rattle.model.specs.Grouping.{algorithm1, group, least, similar}
use Rattle.model.specs.Summary.{position}
use Rattle.model.specs.Release.{is_visible, visible}
use Rattle.model.specs.Reading.{Head, graph_by, is_release, summary_by}
use Rattle.model.specs.InOrder.{file_by, groups_fit, in_order, members_at, superedges_fit}
use Rattle.model.proofs.ListLaws.{Ascending, filter_intro, head_or-any, nodes_in_lem}
use Rattle.model.proofs.TwinLaws.{Simple, similar_refl}
use Rattle.model.proofs.ClassLaws.{group_in_lem}
use Rattle.model.proofs.SummaryLaws.{position-group}
use Rattle.model.proofs.ReleaseLaws.{visible_ascending, visible-simple}
use Rattle.model.proofs.ReadBackLaws.{visible_inside}
use Rattle.model.proofs.InOrderLaws.{in_order_parts, place_of}
use Rattle.model.proofs.ToldGraphLaws.{told_place, told_proper}
use Rattle.model.proofs.MergeLaws.{release_same, released_groups}
use Rattle.compressed.specs.Compressed.{first_at, first_member_of}
use Rattle.compressed.specs.ToldLaws.{first_placed}

module _ (n : ℕ) (gs : List (Head × List ℕ)) (js : List (ℕ × ℕ)) (small : n ≤ max_nodes) (fits : groups_fit n (λ p. false) 0 gs ≡ true) (ordered : superedges_fit (length gs) 0 js ≡ true) (released : is_release (file_by n gs js) ≡ true) where
  abbrev G : Graph
  G = graph_by n (summary_by gs js)

  abbrev v : View
  v = visible (graph_by n (summary_by gs js))

  view-simple : Simple (visible (graph_by n (summary_by gs js)))
  view-simple = visible-simple G (told_proper n gs js small fits)

  asc : Ascending (visible (graph_by n (summary_by gs js))).nodes
  asc = visible_ascending G

  members : map (λ g. g.1) gs ≡ algorithm1 (visible (graph_by n (summary_by gs js)))
  members = released_groups n gs js small fits ordered (release_same n gs js small fits ordered released)

  released-members : (p : ℕ) → p ∈ v.nodes → members_at gs (place_of gs p) ≡ group v.nodes (similar v) p
  unfolding members_at
  released-members p m = ap (λ (l : List (List ℕ)). get_or l (position p l) []) members ∙ position-group v view-simple asc p m

  released-first : (p : ℕ) → p ∈ v.nodes → first_member_of gs p ≡ least v.nodes (similar v) p
  unfolding first_at least
  released-first p m =
      first_placed gs p (told_place n gs js small fits p m)
      ∙ ap (head_or 0) (released-members p m)
      ∙ head_or-any 0 p (group v.nodes (similar v) p) p (group_in_lem v.nodes (similar v) p p m (similar_refl v p))

pub release-least : (n : ℕ) (gs : List (Head × List ℕ)) (js : List (ℕ × ℕ)) → in_order n gs js ≡ true → is_release (file_by n gs js) ≡ true → (p : ℕ) → is_visible (graph_by n (summary_by gs js)) p ≡ true
    → first_member_of gs p ≡ least (visible (graph_by n (summary_by gs js))).nodes (similar (visible (graph_by n (summary_by gs js)))) p
release-least n gs js o t p h =
    let s = in_order_parts n gs js o in
    let g : Graph = graph_by n (summary_by gs js) in
    released-first n gs js s.0 s.1 s.2 t p (filter_intro (is_visible g) (nodes g.node_count) p (nodes_in_lem g.node_count p (visible_inside g p h)) h)
