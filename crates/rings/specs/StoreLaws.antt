-- What the stores of each step come to.
use Rattle.std.specs.Prelude.{◌≡◌, refl, ◌≢◌, ◌⊎◌, true, false, List, ℕ, ◌+◌, ◌*◌, ◌≤◌, ◌<◌, ltb, length}
use Rattle.std.proofs.Common.{sym, subst, ◌∙◌, inl, inr, arith, ltb-true, ltb-false, lt-ltb, le-ltb, length-set, get_or-set_same, get_or-set_other}
use Rattle.std.proofs.Math.Decide.{ℕ_discrete, dec_lt}
use Rattle.model.specs.Graph.{node_numbers}
use Rattle.model.specs.Tables.{node_number}
use Rattle.model.proofs.TestLaws.{decide}
use Rattle.rings.specs.Steps.{Before, lower, wrapped, Taken, Put, Sound, NewLeast, passes, none, Linked, Renamed, Stored, rising}

module _ {q j v : ℕ} {t t' : List ℕ} (e : Stored q j v t t') where
  pub at : node_numbers * q + j < length t → node_number t' q j ≡ v
  unfolding node_number
  at h = rw e.is (get_or-set_same t (node_numbers * q + j) v 0 h)

  pub off : (p k : ℕ) → k < node_numbers → j < node_numbers → p ≢ q → node_number t' p k ≡ node_number t p k
  unfolding node_number
  off p k hk hj ne = rw e.is (get_or-set_other t (node_numbers * q + j) (node_numbers * p + k) v 0 (omega arith))

  pub beside : (p k : ℕ) → k < node_numbers → j < node_numbers → k ≢ j → node_number t' p k ≡ node_number t p k
  unfolding node_number
  beside p k hk hj ne = rw e.is (get_or-set_other t (node_numbers * q + j) (node_numbers * p + k) v 0 (omega arith))

  pub size : length t' ≡ length t
  size = rw e.is (length-set t (node_numbers * q + j) v)

module _ {n a b : ℕ} {t t₁ t₂ : List ℕ} (l : length t ≡ node_numbers * n) (ha : a < n) (hb : b < n) (e : Stored a 1 b t t₁) (f : Stored b 2 a t₁ t₂) where
  pub linked : Linked a b t t₂
  linked =
      let l₁ = size e in
      record {
        next_at = beside f a 1 (omega arith) (omega arith) (omega arith) ∙ at e (omega arith);
        next_off = λ p ne. beside f p 1 (omega arith) (omega arith) (omega arith) ∙ off e p 1 (omega arith) (omega arith) ne;
        prev_at = at f (omega arith);
        prev_off = λ p ne. off f p 2 (omega arith) (omega arith) ne ∙ beside e p 2 (omega arith) (omega arith) (omega arith);
        least = λ p. beside f p 0 (omega arith) (omega arith) (omega arith) ∙ beside e p 0 (omega arith) (omega arith) (omega arith);
        rest = λ p k h h'. beside f p k (omega arith) (omega arith) (omega arith) ∙ beside e p k (omega arith) (omega arith) (omega arith);
        size = size f ∙ l₁;
      }

pub renamed_same : (n x y : ℕ) (t : List ℕ) → x ≡ y → Renamed n x y t t
renamed_same n x y t e = record { hit = λ p h f. f ∙ e; off = λ p h f. refl; rest = λ p k h h'. refl; size = refl }

-- r is the next greater member of p's group, or n if there is none
pub record Rises (n : ℕ) (t : List ℕ) (p r : ℕ) : Type 0 where
  pub above : p < r
  pub within : r ≤ n
  pub member : r < n → node_number t r 0 ≡ node_number t p 0
  pub between : (q : ℕ) → q < n → p < q → q < r → node_number t q 0 ≢ node_number t p 0

pub rises : {n p r : ℕ} {t : List ℕ} → Sound n t → p < n → r ≡ rising n t p → Rises n t p r
unfolding rising
rises {n} {p} {r} {t} s hp e = step (decide (ltb p (node_number t p 1)))
  where
    step : (ltb p (node_number t p 1) ≡ true) ⊎ (ltb p (node_number t p 1) ≡ false) → Rises n t p r
    step (inl b) =
        let h = ltb-true p (node_number t p 1) b in
        let i : r ≡ node_number t p 1 = rw b at e in
        record {
          above = omega arith;
          within = omega (arith, s.next p hp);
          member = λ j. rw i (s.same_least p hp);
          between = λ q hq j j' f. omega (arith, (s.skips p q hp hq f j).1);
        }
    step (inr b) =
        let h = ltb-false p (node_number t p 1) b in
        let i : r ≡ n = rw b at e in
        record {
          above = omega arith;
          within = omega arith;
          member = λ j. absurd (omega arith);
          between = λ q hq j j' f. omega (arith, (s.skips p q hp hq f j).0);
        }

pub rising_next : (n p b : ℕ) (t : List ℕ) → b ≡ node_number t p 1 → p < b → b ≡ rising n t p
unfolding rising
rising_next n p b t e h = rw (← e, lt-ltb p b h) refl

pub rising_none : (n p b : ℕ) (t : List ℕ) → b ≡ node_number t p 1 → b ≤ p → n ≡ rising n t p
unfolding rising
rising_none n p b t e h = rw (← e, le-ltb p b h) refl

rising_same : (n p : ℕ) (t t' : List ℕ) → node_number t' p 1 ≡ node_number t p 1 → rising n t' p ≡ rising n t p
unfolding rising
rising_same n p t t' e = rw e refl

-- the loop of `rename`: the nodes below i are done, and i is one of x's, unless all are done
pub record Renaming (n i x y : ℕ) (t t' : List ℕ) : Type 0 where
  pub done : Renamed i x y t t'
  pub ahead : (p : ℕ) → i ≤ p → node_number t' p 0 ≡ node_number t p 0
  pub here : i < n → node_number t i 0 ≡ x
  pub within : i ≤ n

pub renaming_none : {n x : ℕ} (y : ℕ) {t : List ℕ} → Sound n t → x < n → node_number t x 0 ≡ x → Renaming n x x y t t
renaming_none {n} {x} y {t} s hx e =
    record {
      done = record { hit = λ p h f. absurd (omega (arith, s.under p (omega arith))); off = λ p h f. refl; rest = λ p k h h'. refl; size = refl };
      ahead = λ p h. refl;
      here = λ h. e;
      within = omega arith;
    }

module _ {n i r x y : ℕ} {t t₁ t₂ : List ℕ} (s : Sound n t) (a : Renaming n i x y t t₁) (h : i < n) (e : Stored i 0 y t₁ t₂) (f : r ≡ rising n t₂ i) where
  onward : Rises n t i r
  onward = rises s h (f ∙ rising_same n i t t₂ (beside e i 1 (omega arith) (omega arith) (omega arith) ∙ a.done.rest i 1 (omega arith) (omega arith)))

  pub renaming_less : i < r
  renaming_less = onward.above

  pub renaming_more : Renaming n r x y t t₂
  renaming_more =
      record {
        done = record {
          hit = λ p hp g. hit p hp g (ℕ_discrete p i) (dec_lt p i);
          off = λ p hp g. miss p hp g (ℕ_discrete p i) (dec_lt p i);
          rest = λ p k h₁ h₂. beside e p k h₂ (omega arith) (omega arith) ∙ a.done.rest p k h₁ h₂;
          size = size e ∙ a.done.size;
        };
        ahead = λ p hp. off e p 0 (omega arith) (omega arith) (omega (arith, onward.above)) ∙ a.ahead p (omega (arith, onward.above));
        here = λ hr. onward.member hr ∙ a.here h;
        within = onward.within;
      }
    where
      hit : (p : ℕ) → p < r → node_number t p 0 ≡ x → Dec (p ≡ i) → Dec (p < i) → node_number t₂ p 0 ≡ y
      hit p hp g (yes d) d' = rw d (at e (omega (arith, a.done.size, s.size)))
      hit p hp g (no d) (yes d') = off e p 0 (omega arith) (omega arith) d ∙ a.done.hit p d' g
      hit p hp g (no d) (no d') = absurd (onward.between p (omega (arith, onward.within)) (omega arith) hp (g ∙ sym (a.here h)))

      miss : (p : ℕ) → p < r → node_number t p 0 ≢ x → Dec (p ≡ i) → Dec (p < i) → node_number t₂ p 0 ≡ node_number t p 0
      miss p hp g (yes d) d' = absurd (g (rw d (a.here h)))
      miss p hp g (no d) (yes d') = off e p 0 (omega arith) (omega arith) d ∙ a.done.off p d' g
      miss p hp g (no d) (no d') = off e p 0 (omega arith) (omega arith) d ∙ a.ahead p (omega arith)

pub renamed : {n i x y : ℕ} {t t' : List ℕ} → Renaming n i x y t t' → n ≤ i → Renamed n x y t t'
renamed {n} {i} {x} {y} {t} {t'} r h =
    let w = r.within in
    let e : i ≡ n = omega arith in
    subst (λ j. Renamed j x y t t') e r.done

-- the loop of `last_before`: a is a member before u of the group of g, and b the next
pub record Passing (n u g a b : ℕ) (t : List ℕ) : Type 0 where
  pub lower : a < u
  pub member : node_number t a 0 ≡ g
  pub next : Rises n t a b

module _ {n u g : ℕ} {t : List ℕ} (s : Sound n t) (hu : u < n) where
  pub passing_start : {b : ℕ} → g < u → node_number t g 0 ≡ g → b ≡ rising n t g → Passing n u g g b t
  passing_start h e f = record { lower = h; member = e; next = rises s (omega arith) f }

  pub passing_more : {a b r : ℕ} → Passing n u g a b t → b < u → r ≡ rising n t b → Passing n u g b r t
  passing_more x h f = record { lower = h; member = x.next.member (omega arith) ∙ x.member; next = rises s (omega arith) f }

  pub passed : {a b : ℕ} → Passing n u g a b t → u ≤ b → Before u g a t
  passed x h = lower x.lower x.member (λ r i j f. x.next.between r (omega arith) i (omega arith) (f ∙ sym x.member))

  pub wraps : {a : ℕ} → u < g → a ≡ node_number t g 2 → Before u g a t
  wraps h e = wrapped e (λ r i f. omega (arith, s.under r (omega arith)))

  pub ends : {a : ℕ} → g < n → node_number t g 0 ≡ g → a ≡ node_number t g 2 → a < u → Before u g a t
  ends hg e f h = lower h (rw f (s.behind g hg ∙ e)) (λ r i j l. omega (arith, s.last g r hg (omega arith) e (l ∙ sym e)))

pub before_below : {n u g a : ℕ} {t : List ℕ} → Sound n t → u < n → g < n → Before u g a t → a < n
before_below s hu hg (lower h e f) = omega arith
before_below {g = g} s hu hg (wrapped e f) = omega (arith, s.prev g hg)

passes_on : {l u b y : ℕ} → NewLeast l u b y → l ≡ u → y ≡ b
passes_on (passes e f) i = f
passes_on (none e f) i = absurd (e i)

-- whose members get another least member leads, and that one is a node
pub new_least_leads : {l u b y : ℕ} → NewLeast l u b y → u ≢ y → l ≡ u
new_least_leads (passes e f) i = e
new_least_leads (none e f) i = absurd (i (sym f))

pub new_least_below : {n l u b y : ℕ} → NewLeast l u b y → u < n → b < n → y < n
new_least_below (passes e f) hu hb = omega arith
new_least_below (none e f) hu hb = omega arith

-- the steps of `take_out`
module _ {n u a b y : ℕ} {t t₁ t₂ t₃ t₄ : List ℕ} (l : length t ≡ node_numbers * n) (hu : u < n) (ea : a ≡ node_number t u 2) (eb : b ≡ node_number t u 1) (ey : NewLeast (node_number t u 0) u b y)
    (r : Renamed n u y t t₁) (l₂ : Linked a b t₁ t₂) (l₃ : Linked u u t₂ t₃) (e : Stored u 0 u t₃ t₄) where
  same_size : length t₃ ≡ node_numbers * n
  same_size = l₃.size ∙ l₂.size ∙ r.size ∙ l

  next_is : (p : ℕ) → p ≡ a → node_number t₂ p 1 ≡ b
  next_is p f = rw f l₂.next_at

  prev-is : (p : ℕ) → p ≡ b → node_number t₂ p 2 ≡ a
  prev-is p f = rw f l₂.prev_at

  pub taken_by : Taken n u t t₄
  taken_by =
      let l' = same_size in
      record {
        least_u = at e (omega arith);
        least_hit = λ p hp ne i f. off e p 0 (omega arith) (omega arith) ne ∙ l₃.least p ∙ l₂.least p ∙ r.hit p hp f ∙ passes_on ey i ∙ eb;
        least_off = λ p hp ne f. off e p 0 (omega arith) (omega arith) ne ∙ l₃.least p ∙ l₂.least p ∙ r.off p hp f;
        next_u = beside e u 1 (omega arith) (omega arith) (omega arith) ∙ l₃.next_at;
        next_hit = λ p hp ne f. beside e p 1 (omega arith) (omega arith) (omega arith) ∙ l₃.next_off p ne ∙ next_is p (f ∙ sym ea) ∙ eb;
        next_off = λ p hp ne f. beside e p 1 (omega arith) (omega arith) (omega arith) ∙ l₃.next_off p ne ∙ l₂.next_off p (λ i. f (i ∙ ea)) ∙ r.rest p 1 (omega arith) (omega arith);
        prev_u = beside e u 2 (omega arith) (omega arith) (omega arith) ∙ l₃.prev_at;
        prev_hit = λ p hp ne f. beside e p 2 (omega arith) (omega arith) (omega arith) ∙ l₃.prev_off p ne ∙ prev-is p (f ∙ sym eb) ∙ ea;
        prev_off = λ p hp ne f. beside e p 2 (omega arith) (omega arith) (omega arith) ∙ l₃.prev_off p ne ∙ l₂.prev_off p (λ i. f (i ∙ eb)) ∙ r.rest p 2 (omega arith) (omega arith);
        rest = λ p k hp h h'. beside e p k h' (omega arith) (omega arith) ∙ l₃.rest p k h h' ∙ l₂.rest p k h h' ∙ r.rest p k (omega arith) h';
        size = size e ∙ l₃.size ∙ l₂.size ∙ r.size;
      }

-- the steps of `put_in`
module _ {n u g a b h : ℕ} {t t₁ t₂ t₃ t₄ : List ℕ} (l : length t ≡ node_numbers * n) (hu : u < n) (eb : b ≡ node_number t a 1)
    (r : Renamed n g h t t₁) (e : Stored u 0 h t₁ t₂) (l₃ : Linked a u t₂ t₃) (l₄ : Linked u b t₃ t₄) where
  pub put_by : Put n u g a h t t₄
  put_by =
      let l' : length t₁ ≡ node_numbers * n = r.size ∙ l in
      record {
        least_u = l₄.least u ∙ l₃.least u ∙ at e (omega arith);
        least_hit = λ p hp ne f. l₄.least p ∙ l₃.least p ∙ off e p 0 (omega arith) (omega arith) ne ∙ r.hit p hp f;
        least_off = λ p hp ne f. l₄.least p ∙ l₃.least p ∙ off e p 0 (omega arith) (omega arith) ne ∙ r.off p hp f;
        next_u = l₄.next_at ∙ eb;
        next_hit = λ na. l₄.next_off a na ∙ l₃.next_at;
        next_off = λ p hp ne f. l₄.next_off p ne ∙ l₃.next_off p f ∙ beside e p 1 (omega arith) (omega arith) (omega arith) ∙ r.rest p 1 (omega arith) (omega arith);
        prev_u = λ nb. l₄.prev_off u (λ i. nb (sym eb ∙ sym i)) ∙ l₃.prev_at;
        prev_hit = rw (← eb) l₄.prev_at;
        prev_off = λ p hp ne f. l₄.prev_off p (λ i. f (i ∙ eb)) ∙ l₃.prev_off p ne ∙ beside e p 2 (omega arith) (omega arith) (omega arith) ∙ r.rest p 2 (omega arith) (omega arith);
        rest = λ p k hp i j. l₄.rest p k i j ∙ l₃.rest p k i j ∙ beside e p k j (omega arith) (omega arith) ∙ r.rest p k (omega arith) j;
        size = l₄.size ∙ l₃.size ∙ size e ∙ r.size;
      }
