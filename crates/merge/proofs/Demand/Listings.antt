-- Rows that show the same three pairings: `Listing` is what demand 3 says of them, `matched` gives for each row of one buffer a row of the other with the same indices.
use Prim.Native.Nat.{ℕ, ◌<◌, ◌≤◌}
use native.Mathlib.Omega.{arith}
use mathlib.Core.Path.{◌≡◌, refl, sym, ap, subst, ◌∙◌}
use mathlib.Core.Logic.{inl, inr}
use mathlib.Core.Bool.{Bool}
use mathlib.Core.List.{List}
use lib.Dec.{T}
use Rattle.pairing.specs.Pairing.{Pairs}
use Rattle.pairing.specs.Keys.{nobody}
use Rattle.merge.specs.Buffer.{base_in, ours_in, theirs_in, TrackOrNone}
use Rattle.merge.specs.Demand3.{ExactlyOne}

-- the rows of a buffer hold m, n and l tracks, and show the pairs of base with ours, base with theirs, and ours with theirs
pub record Listing (m n l : ℕ) (bo bt ot : Pairs) (buffer : List ℕ) (rows : ℕ) : Type 0 where
  pub each_base : (i : ℕ) → i < m → ExactlyOne rows (λ r. base_in buffer r ≡ i)
  pub each_ours : (j : ℕ) → j < n → ExactlyOne rows (λ r. ours_in buffer r ≡ j)
  pub each_theirs : (k : ℕ) → k < l → ExactlyOne rows (λ r. theirs_in buffer r ≡ k)
  pub base_index : (r : ℕ) → r < rows → TrackOrNone m (base_in buffer r)
  pub ours-index : (r : ℕ) → r < rows → TrackOrNone n (ours_in buffer r)
  pub theirs-index : (r : ℕ) → r < rows → TrackOrNone l (theirs_in buffer r)
  pub some-track : (r : ℕ) → r < rows → base_in buffer r ≡ nobody → ours_in buffer r ≡ nobody → theirs_in buffer r ≡ nobody → ⊥
  pub shows_bo : (r : ℕ) → r < rows → base_in buffer r < m → ours_in buffer r < n → T (bo (base_in buffer r) (ours_in buffer r))
  pub shows_bt : (r : ℕ) → r < rows → base_in buffer r < m → theirs_in buffer r < l → T (bt (base_in buffer r) (theirs_in buffer r))
  pub shows_ot : (r : ℕ) → r < rows → base_in buffer r ≡ nobody → ours_in buffer r < n → theirs_in buffer r < l → T (ot (ours_in buffer r) (theirs_in buffer r))
  pub found_bo : (i j : ℕ) → T (bo i j) → (r : ℕ) × (r < rows) × (base_in buffer r ≡ i) × (ours_in buffer r ≡ j)
  pub found_bt : (i k : ℕ) → T (bt i k) → (r : ℕ) × (r < rows) × (base_in buffer r ≡ i) × (theirs_in buffer r ≡ k)
  pub found_ot : (j k : ℕ) → T (ot j k) → (r : ℕ) × (r < rows) × (ours_in buffer r ≡ j) × (theirs_in buffer r ≡ k) × (base_in buffer r ≡ nobody)

-- rows with the same indices
pub record SameRow (buffer other : List ℕ) (r q : ℕ) : Type 0 where
  pub base : base_in other q ≡ base_in buffer r
  pub ours : ours_in other q ≡ ours_in buffer r
  pub theirs : theirs_in other q ≡ theirs_in buffer r

one-row : {n : ℕ} {P : ℕ → Type 0} → ExactlyOne n P → (q r : ℕ) → q < n → P q → r < n → P r → q ≡ r
one-row w q r h p k s = w.3 q h p ∙ sym (w.3 r k s)

-- the index of a partner, where it is the same partner
same_index : (size x y : ℕ) (s : ℕ → Bool) → TrackOrNone size x → TrackOrNone size y → (x < size → T (s x)) → (y < size → T (s y)) → ((j : ℕ) → T (s j) → x ≡ j) → ((j : ℕ) → T (s j) → y ≡ j) → y ≡ x
same_index size x y s (inl a) d p q f g = g x (p a)
same_index size x y s (inr e) (inl b) p q f g = sym (f y (q b))
same_index size x y s (inr e) (inr d) p q f g = d ∙ sym e

-- ---- one buffer

module _ {m n l : ℕ} {bo bt ot : Pairs} {buffer : List ℕ} {rows : ℕ} (x : Listing m n l bo bt ot buffer rows) (r : ℕ) (h : r < rows) where
  ours_of_base : (i : ℕ) → base_in buffer r ≡ i → i < m → (j : ℕ) → T (bo i j) → ours_in buffer r ≡ j
  ours_of_base i e a j t = let w = x.found_bo i j t in ap (ours_in buffer) (one-row (x.each_base i a) r w.0 h e w.1 w.2) ∙ w.3

  theirs_of_base : (i : ℕ) → base_in buffer r ≡ i → i < m → (k : ℕ) → T (bt i k) → theirs_in buffer r ≡ k
  theirs_of_base i e a k t = let w = x.found_bt i k t in ap (theirs_in buffer) (one-row (x.each_base i a) r w.0 h e w.1 w.2) ∙ w.3

  theirs_of_ours : (j : ℕ) → ours_in buffer r ≡ j → j < n → (k : ℕ) → T (ot j k) → theirs_in buffer r ≡ k
  theirs_of_ours j e a k t = let w = x.found_ot j k t in ap (theirs_in buffer) (one-row (x.each_ours j a) r w.0 h e w.1 w.2) ∙ w.3

  base_of_ours : (j : ℕ) → ours_in buffer r ≡ j → j < n → (i : ℕ) → T (bo i j) → base_in buffer r ≡ i
  base_of_ours j e a i t = let w = x.found_bo i j t in ap (base_in buffer) (one-row (x.each_ours j a) r w.0 h e w.1 w.3) ∙ w.2

  base_of_theirs : (k : ℕ) → theirs_in buffer r ≡ k → k < l → (i : ℕ) → T (bt i k) → base_in buffer r ≡ i
  base_of_theirs k e a i t = let w = x.found_bt i k t in ap (base_in buffer) (one-row (x.each_theirs k a) r w.0 h e w.1 w.3) ∙ w.2

  ours_of_theirs : (k : ℕ) → theirs_in buffer r ≡ k → k < l → (j : ℕ) → T (ot j k) → ours_in buffer r ≡ j
  ours_of_theirs k e a j t = let w = x.found_ot j k t in ap (ours_in buffer) (one-row (x.each_theirs k a) r w.0 h e w.1 w.3) ∙ w.2

-- ---- two buffers

module _ {m n l : ℕ} {bo bt ot : Pairs} {buffer : List ℕ} {rows : ℕ} {other : List ℕ} {rows' : ℕ} (few : (m ≤ 32) × (n ≤ 32) × (l ≤ 32))
    (x : Listing m n l bo bt ot buffer rows) (y : Listing m n l bo bt ot other rows') where
  abbrev Match : ℕ → Type 0
  Match r = (q : ℕ) × (q < rows') × SameRow buffer other r q

  with_base : (r : ℕ) → r < rows → base_in buffer r < m → Match r
  with_base r h a =
      let i = base_in buffer r in
      let w = y.each_base i a in
      let q = w.0 in
      let b : base_in other q < m = rw w.2 a in (
        q,
        w.1,
        record {
          base = w.2;
          ours =
              same_index n (ours_in buffer r) (ours_in other q) (bo i) (x.ours-index r h) (y.ours-index q w.1) (x.shows_bo r h a)
              (λ c. subst (λ (z : ℕ). T (bo z (ours_in other q))) w.2 (y.shows_bo q w.1 b c)) (ours_of_base x r h i refl a) (ours_of_base y q w.1 i w.2 a);
          theirs =
              same_index l (theirs_in buffer r) (theirs_in other q) (bt i) (x.theirs-index r h) (y.theirs-index q w.1) (x.shows_bt r h a)
              (λ c. subst (λ (z : ℕ). T (bt z (theirs_in other q))) w.2 (y.shows_bt q w.1 b c)) (theirs_of_base x r h i refl a) (theirs_of_base y q w.1 i w.2 a);
        },
      )

  with_ours : (r : ℕ) → r < rows → base_in buffer r ≡ nobody → ours_in buffer r < n → Match r
  with_ours r h e a =
      let j = ours_in buffer r in
      let w = y.each_ours j a in
      let q = w.0 in
      let b : ours_in other q < n = rw w.2 a in
      let none : base_in other q ≡ nobody = alone q w.1 w.2 (y.base_index q w.1) in (
        q,
        w.1,
        record {
          base = none ∙ sym e;
          ours = w.2;
          theirs =
              same_index l (theirs_in buffer r) (theirs_in other q) (ot j) (x.theirs-index r h) (y.theirs-index q w.1) (x.shows_ot r h e a)
              (λ c. subst (λ (z : ℕ). T (ot z (theirs_in other q))) w.2 (y.shows_ot q w.1 none b c)) (theirs_of_ours x r h j refl a) (theirs_of_ours y q w.1 j w.2 a);
        },
      )
    where
      -- a base track there would stand here too
      alone : (q : ℕ) → q < rows' → ours_in other q ≡ ours_in buffer r → TrackOrNone m (base_in other q) → base_in other q ≡ nobody
      alone q k d (inl b) =
          let t = y.shows_bo q k b (rw d a) in
          let z = base_of_ours x r h (ours_in other q) (sym d) (rw d a) (base_in other q) t in
          absurd (omega (arith, few.0))
      alone q k d (inr b) = b

  with_theirs : (r : ℕ) → r < rows → base_in buffer r ≡ nobody → ours_in buffer r ≡ nobody → theirs_in buffer r < l → Match r
  with_theirs r h e f a =
      let k = theirs_in buffer r in
      let w = y.each_theirs k a in
      let q = w.0 in
      let none : base_in other q ≡ nobody = no_base q w.1 w.2 (y.base_index q w.1) in
      (q, w.1, record { base = none ∙ sym e; ours = no_ours q w.1 w.2 none (y.ours-index q w.1) ∙ sym f; theirs = w.2 })
    where
      no_base : (q : ℕ) → q < rows' → theirs_in other q ≡ theirs_in buffer r → TrackOrNone m (base_in other q) → base_in other q ≡ nobody
      no_base q k d (inl b) =
          let z = base_of_theirs x r h (theirs_in other q) (sym d) (rw d a) (base_in other q) (y.shows_bt q k b (rw d a)) in
          absurd (omega (arith, few.0))
      no_base q k d (inr b) = b

      no_ours : (q : ℕ) → q < rows' → theirs_in other q ≡ theirs_in buffer r → base_in other q ≡ nobody → TrackOrNone n (ours_in other q) → ours_in other q ≡ nobody
      no_ours q k d c (inl b) =
          let z = ours_of_theirs x r h (theirs_in other q) (sym d) (rw d a) (ours_in other q) (y.shows_ot q k c b (rw d a)) in
          absurd (omega (arith, few.1))
      no_ours q k d c (inr b) = b

  pub matched : (r : ℕ) → r < rows → Match r
  matched r h = go (x.base_index r h) (x.ours-index r h) (x.theirs-index r h)
    where
      go : TrackOrNone m (base_in buffer r) → TrackOrNone n (ours_in buffer r) → TrackOrNone l (theirs_in buffer r) → Match r
      go (inl a) o t = with_base r h a
      go (inr e) (inl a) t = with_ours r h e a
      go (inr e) (inr f) (inl a) = with_theirs r h e f a
      go (inr e) (inr f) (inr d) = absurd (x.some-track r h e f d)
