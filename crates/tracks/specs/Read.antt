-- Reading a list record of document 01: its questions in their order, and the tracks of a list that meets them all.
use Rattle.std.specs.Prelude.{ℕ, zero, suc, ◌+◌, ◌*◌, Bool, true, false, not, List, [], ◌∷◌, ◌++◌, eqb, leb, length, get_or}
use Rattle.kernel.specs.Answer.{Outcome, ask, and_then, through}
use Rattle.tracks.specs.Layout.{fields, map_bits, map_bytes, count_met, dimension_met, stands, finite_bits, spare}
use Rattle.kernel.specs.Bytes.{word}
use Rattle.std.specs.Prelude.{Ok}
use Rattle.kernel.specs.declared.question.Question.TheVariants as question

-- What stands at an offset, and the offset after it.
pub record Item (A : Type 0) : Type 0 where
  pub value : A
  pub next : ℕ

-- What stands there, made into something else.
abbrev pub item_of : {A B : Type 0} → (A → B) → Item A → Item B
item_of make x = record { value = make x.value; next = x.next }

-- The items read so far, and one more.
abbrev pub push : {A : Type 0} → Item (List A) → Item A → Item (List A)
push xs x = record { value = xs.value ++ (x.value ∷ []); next = x.next }

-- n items from an offset on, each where the one before it ends; item k is read by `read k`.
unfoldable pub items : {A : Type 0} → (ℕ → ℕ → Outcome (Item A)) → ℕ → ℕ → Outcome (Item (List A))
items read at zero = Ok (record { value = []; next = at })
items read at (suc n) = and_then (items read at n) (λ xs. through (push xs) (read n xs.next))

-- A field whose bit stands, as its 64 bits: questions 12, 14 and 15.
unfoldable pub stored : List ℕ → ℕ → Outcome (Item ℕ)
stored l at =
    ask question.Present (leb (at + 8) (length l))
    (ask question.FiniteField (finite_bits (word l at))
    (ask question.NonzeroField (not (eqb (word l at) 0))
    (Ok (record { value = word l at; next = at + 8 }))))

-- A field where its bit stands, and +0.0 where it does not.
abbrev pub stored_if : Bool → List ℕ → ℕ → Outcome (Item ℕ)
stored_if true l at = stored l at
stored_if false l at = Ok (record { value = 0; next = at })

-- Field k of the track whose map starts at an offset.
unfoldable pub field : List ℕ → ℕ → ℕ → ℕ → Outcome (Item ℕ)
unfolding stands stored
field l map k at = stored_if (stands l map k) l at

-- A track: its fields in their order, each as its 64 bits.
pub record Track : Type 0 where
  pub values : List ℕ

abbrev pub track_of : List ℕ → Track
track_of v = record { values = v }

-- Where the stored fields of the track at an offset start: after its map.
abbrev pub after_map : ℕ → ℕ → ℕ
after_map d at = at + map_bytes (map_bits d)

-- The track of dimension d at an offset: questions 12 and 13 for its map, then its fields.
unfoldable pub track : List ℕ → ℕ → ℕ → Outcome (Item Track)
unfolding fields map_bits spare items field
track l d at =
    ask question.Present (leb (after_map d at) (length l))
    (ask question.SpareBits (spare l (map_bits d) at)
    (through (item_of track_of) (items (field l at) (after_map d at) (fields d))))

-- The first n tracks of dimension d. They start after the two bytes of count and dimension.
unfoldable pub tracks : List ℕ → ℕ → ℕ → Outcome (Item (List Track))
unfolding items track
tracks l d n = items (λ _. track l d) 2 n

-- Byte 0 is the count, byte 1 the dimension.
abbrev pub count : List ℕ → ℕ
count l = get_or l 0 0

abbrev pub dimension : List ℕ → ℕ
dimension l = get_or l 1 0

-- The dimension of a list, and its tracks.
pub record TrackList : Type 0 where
  pub dimension : ℕ
  pub tracks : List Track

-- Question 16: nothing after the last track.
abbrev pub nothing_after : List ℕ → Item (List Track) → Outcome TrackList
nothing_after l ts = ask question.NothingAfter (eqb ts.next (length l)) (Ok (record { dimension = dimension l; tracks = ts.value }))

-- What a list holds.
unfoldable pub contents : List ℕ → Outcome TrackList
unfolding tracks
contents l =
    ask question.Header (leb 2 (length l))
    (ask question.Count (count_met (count l))
    (ask question.Dimension (dimension_met (dimension l))
    (and_then (tracks l (dimension l) (count l)) (nothing_after l))))

-- Reading a list into a slice of some length: question 2 is the last.
unfoldable pub reading : List ℕ → ℕ → Outcome TrackList
unfolding fields contents
reading l room = and_then (contents l) (λ c. ask question.Length (leb (length c.tracks * fields c.dimension) room) (Ok c))
