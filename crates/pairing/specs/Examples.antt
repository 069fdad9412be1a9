-- Small pairings with the expected partners, computed on the definitions.
use Rattle.std.specs.Prelude.{ℕ, ◌≡◌, refl, true, false, List, [], ◌∷◌, eqb, pos, Float}
use Rattle.std.specs.Float.{nan, fin}
use Rattle.std.specs.Float.Ieee.{lt, eq, is_nan}
use Rattle.pairing.specs.Pairing.{Pairs, blocking}
use Rattle.pairing.specs.Keys.{key_of, by_key, from_keys, nobody, first_partners, second_partners}

abbrev +0 : Float
+0 = fin false 0 (pos 0)

abbrev -0 : Float
-0 = fin true 0 (pos 0)

abbrev 1' : Float
1' = fin false 1 (pos 0)

abbrev 2' : Float
2' = fin false 1 (pos 1)

abbrev 3' : Float
3' = fin false 3 (pos 0)

abbrev 4' : Float
4' = fin false 1 (pos 2)

-- below all distances
abbrev -1' : Float
-1' = fin true 1 (pos 0)

pub record Expected (keys : List Float) (m n : ℕ) (firsts seconds : List ℕ) : Type 0 where
  pub of_firsts : first_partners (from_keys keys m n) ≡ firsts
  pub of_seconds : second_partners (from_keys keys m n) ≡ seconds

-- one side is empty
no_firsts : Expected [] 0 3 [] (nobody ∷ nobody ∷ nobody ∷ [])
unfolding first_partners second_partners
no_firsts = record { of_firsts = refl; of_seconds = refl }

no_seconds : Expected [] 2 0 (nobody ∷ nobody ∷ []) []
unfolding first_partners second_partners
no_seconds = record { of_firsts = refl; of_seconds = refl }

-- no candidates
no_candidates : Expected (nan ∷ nan ∷ nan ∷ nan ∷ []) 2 2 (nobody ∷ nobody ∷ []) (nobody ∷ nobody ∷ [])
unfolding first_partners second_partners by_key key_of is_nan lt eq
no_candidates = record { of_firsts = refl; of_seconds = refl }

-- Equal keys: the lower first index, then the lower second index.
all_equal : Expected (1' ∷ 1' ∷ 1' ∷ 1' ∷ 1' ∷ 1' ∷ []) 2 3 (0 ∷ 1 ∷ []) (0 ∷ 1 ∷ nobody ∷ [])
unfolding first_partners second_partners by_key key_of is_nan lt eq
all_equal = record { of_firsts = refl; of_seconds = refl }

-- Equal keys on one second track: the lower first index.
lower-first : Expected (2' ∷ 1' ∷ 1' ∷ []) 3 1 (nobody ∷ 0 ∷ nobody ∷ []) (1 ∷ [])
unfolding first_partners second_partners by_key key_of is_nan lt eq
lower-first = record { of_firsts = refl; of_seconds = refl }

-- +0 and -0 are equal, so that the lower second index decides.
zeros : Expected (+0 ∷ -0 ∷ []) 1 2 (0 ∷ []) (0 ∷ nobody ∷ [])
unfolding first_partners second_partners by_key key_of is_nan lt eq
zeros = record { of_firsts = refl; of_seconds = refl }

-- The nearest pair takes its tracks, and each of the others gets what it left: (0, 1) at 1 leaves (1, 0) at 4, though (0, 0) and (1, 1) are nearer.
chain : Expected (2' ∷ 1' ∷ 4' ∷ 3' ∷ []) 2 2 (1 ∷ 0 ∷ []) (1 ∷ 0 ∷ [])
unfolding first_partners second_partners by_key key_of is_nan lt eq
chain = record { of_firsts = refl; of_seconds = refl }

-- One choice frees a track for another: (1, 0) at 1 takes first track 1 from (1, 1) at 2, so that second track 1 is left for (2, 1) at 3. First track 0 wants second
-- track 0 alone, and stays free.
freed : Expected (4' ∷ nan ∷ 1' ∷ 2' ∷ nan ∷ 3' ∷ []) 3 2 (nobody ∷ 0 ∷ 1 ∷ []) (1 ∷ 2 ∷ [])
unfolding first_partners second_partners by_key key_of is_nan lt eq
freed = record { of_firsts = refl; of_seconds = refl }

-- A key below 0 comes before all distances.
below-zero : Expected (+0 ∷ -1' ∷ +0 ∷ nan ∷ []) 2 2 (1 ∷ 0 ∷ []) (1 ∷ 0 ∷ [])
unfolding first_partners second_partners by_key key_of is_nan lt eq
below-zero = record { of_firsts = refl; of_seconds = refl }

-- Of the keys of `chain`, place by place is a pairing that (0, 1) blocks, and nothing else does.
abbrev by_place : Pairs
by_place i j = eqb i j

by_place_lem : blocking (from_keys (2' ∷ 1' ∷ 4' ∷ 3' ∷ []) 2 2) by_place 0 1 ≡ true
unfolding blocking by_key key_of is_nan lt eq
by_place_lem = refl

by_place-other : blocking (from_keys (2' ∷ 1' ∷ 4' ∷ 3' ∷ []) 2 2) by_place 1 0 ≡ false
unfolding blocking by_key key_of is_nan lt eq
by_place-other = refl

-- A pairing of nothing is blocked by each candidate.
nothing-paired : blocking (from_keys (3' ∷ []) 1 1) (λ i j. false) 0 0 ≡ true
unfolding blocking by_key key_of is_nan lt eq
nothing-paired = refl
