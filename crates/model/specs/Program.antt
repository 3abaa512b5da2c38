-- Document 01, the program: bytes of standard input to bytes of standard output.
use Rattle.std.specs.Prelude.{Bool, true, false, not, ◌&&◌, ◌||◌, cond, List, [], ◌∷◌, ◌++◌, map, ℕ, suc, zero, ◌+◌, ◌*◌, ◌/◌, ◌%◌, ◌-◌, eqb, ltb, leb, ℤ, pos, negsuc, length, get_or}
use Prim.Native.Char.{code}
use Prim.Native.String.{String, [] as ended, ◌∷◌ as ◌then◌}
use Rattle.model.specs.Lists.{all, concat, head_or, same_list}
use Rattle.model.specs.Graph.{Graph, empty_graph, max_nodes, max_updates}
use Rattle.model.specs.Grouping.{kind_of}
use Rattle.model.specs.Updates.{Update, batch_graph, answers}
use Rattle.model.specs.Release.{visible, visible_groups, superedges, kind_byte}

-- input longer than this is refused; the release buffer has as many bytes
abbrev pub max_bytes : ℕ
max_bytes = 65536

-- the bytes of a text
unfoldable pub text : String → List ℕ
text ended = []
text (c then cs) = code c ∷ text cs

-- the pieces of a text between separators: each separator ends one piece and begins the next
unfoldable pub before : ℕ → List (List ℕ) → List (List ℕ)
before b [] = (b ∷ []) ∷ []
before b (x ∷ xs) = (b ∷ x) ∷ xs

unfoldable pub pieces : ℕ → List ℕ → List (List ℕ)
pieces sep [] = [] ∷ []
pieces sep (b ∷ bs) = cond (eqb b sep) ([] ∷ pieces sep bs) (before b (pieces sep bs))

unfoldable pub is_none : List (List ℕ) → Bool
is_none [] = true
is_none (x ∷ xs) = false

-- a number: 1 to 5 digits, no leading zero, at most 65,535
unfoldable pub value_of : ℕ → List ℕ → ℕ
value_of v [] = v
value_of v (d ∷ ds) = value_of (10 * v + (d - 0x30)) ds

unfoldable pub is_number : List ℕ → Bool
is_number ds =
    (leb 1 (length ds) && leb (length ds) 5)
    && (all ds (λ d. leb 0x30 d && leb d 0x39)
    && ((eqb (length ds) 1 || not (eqb (head_or 0 ds) 0x30))
    && leb (value_of 0 ds) 65535))

-- a line after the first: `t u v`, `u u v`, `w u` or `o u`, with single spaces
pub data Line : Type 0 where
  change : Update → Line
  ill_formed : Line

abbrev pub field : List (List ℕ) → ℕ → List ℕ
field fs i = get_or fs i []

unfoldable pub edge_line : ℕ → List (List ℕ) → Line
edge_line wanted fs =
    cond (eqb (length fs) 3 && (is_number (field fs 1) && is_number (field fs 2)))
    (change (record { kind = 1; u = value_of 0 (field fs 1); v = value_of 0 (field fs 2); wanted = wanted }))
    ill_formed

unfoldable pub mark_line : ℕ → List (List ℕ) → Line
mark_line wanted fs =
    cond (eqb (length fs) 2 && is_number (field fs 1))
    (change (record { kind = 2; u = value_of 0 (field fs 1); v = 0; wanted = wanted }))
    ill_formed

unfoldable pub line_of : List ℕ → Line
line_of line =
    let fs : List (List ℕ) = pieces 0x20 line in
    cond (same_list (field fs 0) (text "t")) (edge_line 1 fs)
    (cond (same_list (field fs 0) (text "u")) (edge_line 0 fs)
    (cond (same_list (field fs 0) (text "w")) (mark_line 1 fs)
    (cond (same_list (field fs 0) (text "o")) (mark_line 0 fs)
    ill_formed)))

-- the input: refused at a line, or n and its changes
pub data Input : Type 0 where
  refused_at : ℕ → Input
  accepted : ℕ → List Update → Input

unfoldable pub with_update : Update → Input → Input
with_update c (refused_at k) = refused_at k
with_update c (accepted n cs) = accepted n (c ∷ cs)

-- line k, before the lines that follow it: it is refused where it is ill-formed or a 4,097th change
unfoldable pub with_line : ℕ → Line → Input → Input
with_line k ill_formed rest = refused_at k
with_line k (change c) rest = cond (ltb (suc max_updates) k) (refused_at k) (with_update c rest)

-- the lines from line k on; what stands after the last line feed is an ill-formed line, if it is anything
unfoldable pub lines_from : ℕ → ℕ → List (List ℕ) → Input
lines_from n k [] = accepted n []
lines_from n k (l ∷ ls) =
    cond (is_none ls)
    (cond (eqb (length l) 0) (accepted n []) (refused_at k))
    (with_line k (line_of l) (lines_from n (suc k) ls))

-- the first line: n, at most 512
unfoldable pub is_count : List ℕ → Bool
is_count l = is_number l && leb (value_of 0 l) max_nodes

unfoldable pub first_line : List (List ℕ) → Input
first_line [] = refused_at 1
first_line (l ∷ ls) = cond (is_none ls || not (is_count l)) (refused_at 1) (lines_from (value_of 0 l) 2 ls)

unfoldable pub input_of : List ℕ → Input
input_of bytes = cond (ltb max_bytes (length bytes)) (refused_at 0) (first_line (pieces 0x0A bytes))

-- numbers in decimal; `fuel` is at least the number of digits
unfoldable pub digits : ℕ → ℕ → List ℕ
digits zero x = []
digits (suc fuel) x = cond (ltb x 10) ((0x30 + x) ∷ []) (digits fuel (x / 10) ++ ((0x30 + x % 10) ∷ []))

unfoldable pub decimal : ℕ → List ℕ
decimal x = digits (suc x) x

unfoldable pub signed : ℤ → List ℕ
signed (pos x) = decimal x
signed (negsuc x) = text "-" ++ decimal (suc x)

unfoldable pub refused_line : ℕ → List ℕ
refused_line k = text "input refused at line " ++ (decimal k ++ text "\n")

-- the position and the answer
unfoldable pub change_line : ℕ → ℤ → List ℕ
change_line i a = text "change " ++ (decimal i ++ (text ": " ++ (signed a ++ text "\n")))

unfoldable pub change_lines : ℕ → List ℤ → List ℕ
change_lines i [] = []
change_lines i (a ∷ as') = change_line i a ++ change_lines (suc i) as'

-- m, g and s
unfoldable pub open_line : ℕ → ℕ → ℕ → List ℕ
open_line m g s = text "open " ++ (decimal m ++ (text " groups " ++ (decimal g ++ (text " joins " ++ (decimal s ++ text "\n")))))

unfoldable pub spaced : ℕ → List ℕ
spaced x = text " " ++ decimal x

-- `I` or `C`, the same bytes as in the file, and the members
unfoldable pub group_line : (ℕ → ℕ → Bool) → List ℕ → List ℕ
group_line e g = kind_byte (kind_of e g) ∷ (concat (map spaced g) ++ text "\n")

-- `J i j`
unfoldable pub superedge_line : ℕ × ℕ → List ℕ
superedge_line ij = text "J" ++ (spaced ij.0 ++ (spaced ij.1 ++ text "\n"))

unfoldable pub release_lines : Graph → List ℕ
release_lines g =
    let gs : List (List ℕ) = visible_groups g in
    let js : List (ℕ × ℕ) = superedges (visible g).edge 0 gs in
    open_line (length (visible g).nodes) (length gs) (length js) ++ (concat (map (group_line (visible g).edge) gs) ++ concat (map superedge_line js))

unfoldable pub printed : Input → List ℕ
printed (refused_at k) = refused_line k
printed (accepted n cs) = change_lines 1 (answers (empty_graph n) cs) ++ release_lines (batch_graph (empty_graph n) cs)

unfoldable pub program : List ℕ → List ℕ
program bytes = printed (input_of bytes)
