-- The words of the private functions' contracts: no caller needs them.
use Rattle.std.specs.Prelude.{ℕ, ◌+◌, ◌*◌, ◌/◌, ◌≤◌, ◌<◌, ◌≡◌, List, length, Float}
use Rattle.std.specs.Float.{binary64}
use Rattle.std.specs.Float.Ieee.{of_bits}
use Rattle.kernel.specs.Answer.{Outcome, through}
use Rattle.kernel.specs.Lists.{over, tabulate}
use Rattle.tracks.specs.Layout.{fields, map_bytes}
use Rattle.tracks.specs.Read.{Item, Track, TrackList, track_of, field, track, tracks, contents}
use Rattle.tracks.specs.Record.{offset}
use Rattle.tracks.specs.Write.{records_of, tracks_of}
use Rattle.tracks.specs.Calls.{doubles, patterns}
use Rattle.tracks.specs.declared.read.ListSize.{ListSize}
use Rattle.std.specs.Prelude.{Ok}

-- Where an item ends, or the question that it does not meet.
abbrev pub ends : {A : Type 0} → Outcome (Item A) → Outcome ℕ
ends = through (λ x. x.next)

-- That items end within a list.
abbrev pub Within : List ℕ → Outcome ℕ → Type 0
Within l c = (at : ℕ) → c ≡ Ok at → at ≤ length l

-- That nothing is refused.
abbrev pub Accepted : {A : Type 0} → Outcome A → Type 0
Accepted {A} o = (x : A) × (o ≡ Ok x)

-- The track with the values that are to be written.
abbrev pub track_of_doubles : List Float → Track
track_of_doubles v = track_of (patterns v)

-- That an item's values are left in a slice from an index on, and the offset after the item is given.
abbrev pub Puts : {A : Type 0} → (A → List ℕ) → Outcome (Item A) → List Float → ℕ → ℕ → List Float → Type 0
Puts {A} fields_of o old i next new = (x : Item A) → o ≡ Ok x → (next ≡ x.next) × (new ≡ over old i (doubles (fields_of x.value)))

-- That the value of a field is left, and the offset after the field is given.
abbrev pub PutsField : Outcome (Item ℕ) → ℕ → Float → Type 0
PutsField o next value = (x : Item ℕ) → o ≡ Ok x → (next ≡ x.next) × (value ≡ of_bits binary64 x.value)

-- That the values of a track are left, and the offset after the track is given.
abbrev pub PutsTrack : Outcome (Item Track) → ℕ → List Float → Type 0
PutsTrack o next values = (t : Item Track) → o ≡ Ok t → (next ≡ t.next) × (values ≡ doubles t.value.values)

-- That bytes are left in a buffer from an offset on, and the offset after them is given.
abbrev pub Writes : List ℕ → List ℕ → ℕ → ℕ → List ℕ → Type 0
Writes bytes old at next new = (next ≡ at + length bytes) × (new ≡ over old at bytes)

-- That a slice which held old numbers holds the offsets of an accepted list in front. A list that is refused leaves anything there.
abbrev pub Offsets : List ℕ → List ℕ → List ℕ → Type 0
Offsets l old new = (c : TrackList) → contents l ≡ Ok c → new ≡ over old 0 (tabulate (length c.tracks + 1) (offset l))

-- ---- what is asked, part by part

-- a dimension that a list may have, its first two bytes, and room for the offsets of so many tracks and the end of the last one
pub record TracksChecked (list : List ℕ) (size : ListSize) (offsets : List ℕ) : Type 0 where
  pub small : size.dimension ≤ 9
  pub head : 2 ≤ length list
  pub room : size.count < length offsets

-- f fields whose bits are there, and the offset where they start
pub record FieldsChecked (list : List ℕ) (f map start : ℕ) : Type 0 where
  pub small : f ≤ 64
  pub told : map + map_bytes f ≤ length list
  pub within : start ≤ length list

-- that the byte which tells of field k is there, and that the field is accepted
pub record FieldPut (list : List ℕ) (map k at : ℕ) : Type 0 where
  pub told : map + k / 8 < length list
  pub accepted : Accepted (field list map k at)

-- a value for each field of a track, and that the track is accepted
pub record TrackPut (list : List ℕ) (d map : ℕ) (values : List Float) : Type 0 where
  pub small : d ≤ 9
  pub long : length values ≡ fields d
  pub accepted : Accepted (track list d map)

-- room for the fields of so many tracks, and that these are accepted
pub record TracksPut (list : List ℕ) (size : ListSize) (values : List Float) : Type 0 where
  pub small : size.dimension ≤ 9
  pub few : size.count ≤ 32
  pub room : size.count * fields size.dimension ≤ length values
  pub accepted : Accepted (tracks list size.dimension size.count)

-- the values of n tracks, and room for their records
pub record TracksWritten (values : List Float) (d n : ℕ) (out : List ℕ) : Type 0 where
  pub small : d ≤ 9
  pub sized : 0 < fields d
  pub long : length values ≡ n * fields d
  pub room : 2 + length (records_of d (tracks_of n (fields d) (patterns values))) ≤ length out
