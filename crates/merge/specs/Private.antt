-- The words of the private functions' contracts: no caller needs them, and no definition that a caller reads.
use Rattle.std.specs.Prelude.{ℕ, ◌+◌, ◌*◌, ◌<◌, ◌≤◌, ◌≡◌, Bool, true, cond, ◌&&◌, eqb, length, get_or, take, Float}
use mathlib.Core.List.{List, [], flat_map}
use Rattle.std.specs.Float.{nan}
use Rattle.kernel.specs.Answer.{Outcome, ask, and_then}
use Rattle.kernel.specs.Bytes.{Bytes}
use Rattle.kernel.specs.Lists.{over, tabulate}
use Rattle.dense.specs.Matrix.{nth, row_of, matrix, is_side}
use Rattle.fusion.specs.Fusion.{Fusing, none, track, fused}
use Rattle.tracks.specs.Layout.{fields}
use Rattle.tracks.specs.Read.{TrackList, contents}
use Rattle.tracks.specs.Record.{offset}
use Rattle.tracks.specs.declared.read.ListSize.{ListSize}
use Rattle.compare.specs.Distance.{compared}
use Rattle.compare.specs.Fields.{track_state, track_covariance}
use Rattle.pairing.specs.Keys.{nobody, from_keys, is_free}
use Rattle.tracks.specs.Calls.{doubles}
use Rattle.merge.specs.Tracks.{ThreeLists, track_count, track_at}
use Rattle.merge.specs.Candidates.{candidacy_of, rank}
use Rattle.merge.specs.Rows.{Row, row_bytes, row_at, is_track, keep, conflict, verdict_on, rows_of, selected, Partners, Pairings}
use Rattle.merge.specs.Fused.{fuse, fusion}
use Rattle.merge.specs.Merge.{partners_in, pairings_of, accepted_lists}
use Rattle.merge.specs.Buffer.{TrackOrNone, base_in, ours_in, theirs_in, verdict_in, tracks_in, how_many}
use Rattle.merge.specs.declared.Counts.{Counts}
use Rattle.merge.specs.declared.keys.Terms.{Terms}
use Rattle.merge.specs.declared.pairings.Partners as TableOf
use Rattle.merge.specs.declared.pairings.Pairings as TablesOf
use Rattle.merge.specs.declared.questions.Sizes.{Sizes}
use Rattle.merge.specs.declared.verdict.Lists.{Lists}
use Rattle.merge.specs.declared.verdict.Offsets.{Offsets}
use Rattle.merge.specs.declared.verdict.Indices.{Indices}
use Rattle.std.specs.Prelude.{Ok, Err}
use Rattle.kernel.specs.declared.question.Question.TheVariants as question

-- ---- lists that are read

-- The tracks of a list. A list that is refused has none here.
abbrev pub held_in : Outcome TrackList → TrackList
held_in (Err q) = record { dimension = 0; tracks = [] }
held_in (Ok c) = c

abbrev pub held : List ℕ → TrackList
held l = held_in (contents l)

abbrev pub held_three : List ℕ → List ℕ → List ℕ → ThreeLists
held_three base ours theirs = record { base = held base; ours = held ours; theirs = held theirs }

-- That a list of bytes is accepted, and that numbers say where its tracks start and the last one ends.
pub record Located (l offsets : List ℕ) : Type 0 where
  pub bytes : Bytes l
  pub accepted : contents l ≡ Ok (held l)
  pub places : (j : ℕ) → j ≤ track_count (held l) → get_or offsets j 0 ≡ offset l j
  pub room : length offsets ≡ 33

-- The same of three lists of one dimension.
pub record AllLocated (base ours theirs : List ℕ) (offsets : Offsets) : Type 0 where
  pub of_base : Located base offsets.base
  pub of_ours : Located ours offsets.ours
  pub of_theirs : Located theirs offsets.theirs
  pub ours-dimension : (held ours).dimension ≡ (held base).dimension
  pub theirs-dimension : (held theirs).dimension ≡ (held base).dimension

abbrev pub AllPlaced : Lists → Type 0
AllPlaced lists = AllLocated lists.base.list.now lists.ours.list.now lists.theirs.list.now (record {
  base = lists.base.offsets.now;
  ours = lists.ours.offsets.now;
  theirs = lists.theirs.offsets.now;
})

-- The tracks of three lists.
abbrev pub held_lists : Lists → ThreeLists
held_lists lists = held_three lists.base.list.now lists.ours.list.now lists.theirs.list.now

-- That these are the sizes of three lists.
pub record SizesOf (lists : ThreeLists) (sizes : Sizes) : Type 0 where
  pub of_base : sizes.base ≡ track_count lists.base
  pub of_ours : sizes.ours ≡ track_count lists.ours
  pub of_theirs : sizes.theirs ≡ track_count lists.theirs
  pub of_dimension : sizes.dimension ≡ lists.base.dimension

-- What three readings tell, in one: the first refusal, or the sizes of lists of one dimension.
abbrev pub three_of : Outcome ListSize → Outcome ListSize → Outcome ListSize → Outcome Sizes
three_of base ours theirs =
    and_then base (λ b.
    and_then ours (λ o.
    and_then theirs (λ t.
    ask question.OneDimension (eqb b.dimension o.dimension && eqb b.dimension t.dimension)
    (Ok (record { base = b.count; ours = o.count; theirs = t.count; dimension = b.dimension })))))

-- That a list is read: where its n tracks stand, and values that hold their fields in front.
pub record Read (l offsets : List ℕ) (values : List Float) (n : ℕ) : Type 0 where
  pub located : Located l offsets
  pub number : n ≡ track_count (held l)
  pub long : length values ≡ 1728
  pub fields_of_lem : (i : ℕ) → i < n → row_of values (fields (held l).dimension) i ≡ doubles (track_at (held l) i).values

-- That three lists of these sizes are read.
pub record AllRead (base ours theirs : List ℕ) (offsets : Offsets) (base-values ours-values theirs-values : List Float) (sizes : Sizes) : Type 0 where
  pub of_base : Read base offsets.base base-values sizes.base
  pub of_ours : Read ours offsets.ours ours-values sizes.ours
  pub of_theirs : Read theirs offsets.theirs theirs-values sizes.theirs
  pub base-dimension : sizes.dimension ≡ (held base).dimension
  pub ours-dimension : sizes.dimension ≡ (held ours).dimension
  pub theirs-dimension : sizes.dimension ≡ (held theirs).dimension

-- What an answer to all three says of them.
abbrev pub ThreeAnswered : List ℕ → List ℕ → List ℕ → Offsets → List Float → List Float → List Float → Outcome Sizes → Type 0
ThreeAnswered base ours theirs offsets base-values ours-values theirs-values (Ok sizes) = AllRead base ours theirs offsets base-values ours-values theirs-values sizes
ThreeAnswered base ours theirs offsets base-values ours-values theirs-values (Err q) = accepted_lists base ours theirs ≡ Err q

-- That there is room for the values of the longest lists.
pub record ValuesRoom (base ours theirs : List Float) : Type 0 where
  pub of_base : length base ≡ 1728
  pub of_ours : length ours ≡ 1728
  pub of_theirs : length theirs ≡ 1728

-- ---- keys

-- What tracks of a dimension are compared by.
abbrev pub terms_of : ℕ → Float → Float → Terms
terms_of d floor gate = record { d = d; floor = floor; gate = gate }

-- That tracks can be compared by these terms.
pub record Compares (terms : Terms) : Type 0 where
  pub some : 1 ≤ terms.d
  pub few : terms.d ≤ 9

-- That values hold n tracks of f fields.
pub record Values (values : List Float) (n f : ℕ) : Type 0 where
  pub few : n ≤ 32
  pub long : n * f ≤ length values

-- That the track with the state mu and the covariance p can be compared, and that q is room for the covariance of another.
pub record Comparable (terms : Terms) (mu p q : List Float) : Type 0 where
  pub compares : Compares terms
  pub state : length mu ≡ terms.d
  pub covariance : length p ≡ terms.d * terms.d
  pub room : length q ≡ terms.d * terms.d

-- The same with the fields v of the other track.
pub record OneKey (terms : Terms) (mu p v q : List Float) : Type 0 where
  pub track : Comparable terms mu p q
  pub other : length v ≡ fields terms.d

-- And with others, as many as there is room for keys.
pub record SomeKeys (terms : Terms) (mu p vs q keys : List Float) : Type 0 where
  pub track : Comparable terms mu p q
  pub others : Values vs (length keys) (fields terms.d)

-- That the track with the fields u can be compared with others, as many as there is room for keys.
pub record KeyRow (terms : Terms) (u vs keys : List Float) : Type 0 where
  pub compares : Compares terms
  pub track : length u ≡ fields terms.d
  pub others : Values vs (length keys) (fields terms.d)

-- That the tracks of two lists can be compared, and those of three.
pub record TwoValues (terms : Terms) (us : List Float) (m : ℕ) (vs : List Float) (n : ℕ) : Type 0 where
  pub compares : Compares terms
  pub firsts : Values us m (fields terms.d)
  pub seconds : Values vs n (fields terms.d)

pub record ThreeValues (base ours theirs : List Float) (sizes : Sizes) (floor gate : Float) : Type 0 where
  pub compares : Compares (terms_of sizes.dimension floor gate)
  pub of_base : Values base sizes.base (fields sizes.dimension)
  pub of_ours : Values ours sizes.ours (fields sizes.dimension)
  pub of_theirs : Values theirs sizes.theirs (fields sizes.dimension)

-- That keys stand in front of an array.
pub record KeysInFront (size : ℕ) (keys array : List Float) : Type 0 where
  pub long : length array ≡ 1024
  pub front : take size array ≡ keys

-- That there are keys for m first and n second tracks in front of a slice.
pub record KeysFor (m n : ℕ) (keys : List Float) : Type 0 where
  pub few-firsts : m ≤ 32
  pub few-seconds : n ≤ 32
  pub long : m * n ≤ length keys

-- The key of the track with the state mu and the covariance p, and the track with the fields v; and that of two tracks by their fields.
abbrev pub key_from : Terms → List Float → List Float → List Float → Float
key_from terms mu p v = let d = terms.d in rank (candidacy_of (compared mu (track_state d v) p (track_covariance d v) d terms.floor terms.gate))

abbrev pub key_between : Terms → List Float → List Float → Float
key_between terms u v = key_from terms (track_state terms.d u) (track_covariance terms.d u) v

-- The same where both are free of earlier pairings, and a NaN where one is not.
abbrev pub key_among : Terms → Bool → Bool → List Float → List Float → Float
key_among terms first second u v = cond (first && second) (key_between terms u v) nan

-- The keys of one track, free or not, and n of a list.
abbrev pub keys_from : Terms → Bool → List Float → List Float → List Float → List ℕ → ℕ → List Float
keys_from terms first mu p vs partners n = tabulate n (λ j. cond (first && is_free partners j) (key_from terms mu p (row_of vs (fields terms.d) j)) nan)

-- The keys of m tracks of one list and n of another, among those that are free by their partners in earlier pairings.
abbrev pub keys_between : Terms → List Float → List ℕ → ℕ → List Float → List ℕ → ℕ → List Float
keys_between terms us us-partners m vs vs-partners n =
    matrix m n (λ i j. key_among terms (is_free us-partners i) (is_free vs-partners j) (row_of us (fields terms.d) i) (row_of vs (fields terms.d) j))

-- ---- pairings

-- The partners in front of two tables, of m first and n second tracks, and the pairings of lists of these sizes.
abbrev pub partners_of : TableOf.Partners → ℕ → ℕ → Partners
partners_of p m n = record { firsts = take m p.firsts; seconds = take n p.seconds }

abbrev pub pairings_in : TablesOf.Pairings → Sizes → Pairings
pairings_in p sizes = record {
  base_ours = partners_of p.base_ours sizes.base sizes.ours;
  base_theirs = partners_of p.base_theirs sizes.base sizes.theirs;
  ours_theirs = partners_of p.ours_theirs sizes.ours sizes.theirs;
}

-- The partners of m tracks of one list and n of another by their keys, among those that are free by their partners in earlier pairings.
unfoldable pub partners_between : Terms → List Float → List ℕ → ℕ → List Float → List ℕ → ℕ → Partners
unfolding partners_in
partners_between terms us us-partners m vs vs-partners n = partners_in (from_keys (keys_between terms us us-partners m vs vs-partners n) m n)

-- The table of n tracks that are all free.
unfoldable pub nobodies : ℕ → List ℕ
unfolding tabulate
nobodies n = tabulate n (λ k. nobody)

-- The three pairings of lists with these values and sizes.
abbrev pub paired_values : Terms → List Float → List Float → List Float → Sizes → Pairings
paired_values terms base ours theirs sizes =
    let m = sizes.base in
    let n = sizes.ours in
    let l = sizes.theirs in
    let bo = partners_between terms base (nobodies m) m ours (nobodies n) n in
    let bt = partners_between terms base (nobodies m) m theirs (nobodies l) l in
    let ot = partners_between terms ours bo.seconds n theirs bt.seconds l in
    record { base_ours = bo; base_theirs = bt; ours_theirs = ot }

-- That tables are the pairings of three lists, by some floor and gate.
pub record Paired (lists : ThreeLists) (p : TablesOf.Pairings) (sizes : Sizes) : Type 0 where
  pub floor : Float
  pub gate : Float
  pub tables : pairings_in p sizes ≡ pairings_of lists floor gate

-- ---- rows

-- The tables of partners, whole.
abbrev pub table_of : TableOf.Partners → Partners
table_of p = record { firsts = p.firsts; seconds = p.seconds }

abbrev pub tables_in : TablesOf.Pairings → Pairings
tables_in p = record { base_ours = table_of p.base_ours; base_theirs = table_of p.base_theirs; ours_theirs = table_of p.ours_theirs }

-- The rows of lists of these sizes by their tables of partners, with any verdicts.
abbrev pub rows_by : (ℕ → ℕ → ℕ → ℕ) → TablesOf.Pairings → Sizes → List Row
rows_by verdict-of p sizes = rows_of verdict-of (tables_in p) sizes.base sizes.ours sizes.theirs

-- What stands in the place of a verdict that is not decided yet, and such a row.
abbrev pub undecided : ℕ → ℕ → ℕ → ℕ
undecided i j k = keep

abbrev pub undecided_row : ℕ → ℕ → ℕ → Row
undecided_row = row_at undecided

-- The rows of the three groups, by the partners of their tracks.
abbrev pub base_group : List ℕ → List ℕ → ℕ → List Row
base_group ours-of theirs-of m = tabulate m (λ i. undecided_row i (get_or ours-of i 0) (get_or theirs-of i 0))

abbrev pub ours_group : List ℕ → List ℕ → ℕ → List Row
ours_group base-of theirs-of n = selected n (is_free base-of) (λ j. undecided_row nobody j (get_or theirs-of j 0))

abbrev pub theirs_group : List ℕ → List ℕ → ℕ → List Row
theirs_group base-of ours-of l = selected l (λ k. is_free base-of k && is_free ours-of k) (undecided_row nobody nobody)

-- The bytes of rows.
abbrev pub rows_bytes : List Row → List ℕ
rows_bytes rows = flat_map row_bytes rows

-- That rows are written from row `at` on, and the row after them is given.
pub record Appended (group : List Row) (at : ℕ) (old : List ℕ) (r : ℕ) (new : List ℕ) : Type 0 where
  pub next : r ≡ at + length group
  pub bytes : new ≡ over old (4 * at) (rows_bytes group)

-- That a buffer has room for the rows of n tracks from row `at` on, and for those of lists of these sizes.
pub record RowsRoom (n at : ℕ) (rows : List ℕ) : Type 0 where
  pub few : n ≤ 32
  pub start : at ≤ 64
  pub room : 4 * (at + n) ≤ length rows

pub record AllRowsRoom (sizes : Sizes) (rows : List ℕ) : Type 0 where
  pub few-base : sizes.base ≤ 32
  pub few-ours : sizes.ours ≤ 32
  pub few-theirs : sizes.theirs ≤ 32
  pub room : 4 * (sizes.base + sizes.ours + sizes.theirs) ≤ length rows

-- ---- verdicts

-- That an index is that of a list's track, or 255.
abbrev pub Index : List ℕ → ℕ → Type 0
Index l i = TrackOrNone (track_count (held l)) i

-- That i and j are indices of two located lists of one dimension.
pub record TwoIndices (a a-offsets : List ℕ) (i : ℕ) (b b-offsets : List ℕ) (j : ℕ) : Type 0 where
  pub of_first : Located a a-offsets
  pub first : Index a i
  pub of_second : Located b b-offsets
  pub second : Index b j
  pub one_dimension : (held a).dimension ≡ (held b).dimension

-- That these are indices of three lists, and that the lists are located too.
pub record RowIndices (lists : Lists) (row : Indices) : Type 0 where
  pub of_base : Index lists.base.list.now row.base
  pub of_ours : Index lists.ours.list.now row.ours
  pub of_theirs : Index lists.theirs.list.now row.theirs

pub record ThreeIndices (lists : Lists) (row : Indices) : Type 0 where
  pub located : AllPlaced lists
  pub indices : RowIndices lists row

-- The indices in row r of a buffer.
abbrev pub indices_in : List ℕ → ℕ → Indices
indices_in rows r = record { base = base_in rows r; ours = ours_in rows r; theirs = theirs_in rows r }

-- That the first rows of a buffer have indices of three lists, so that their verdicts can be written.
pub record RowsToDecide (lists : Lists) (total : ℕ) (rows : List ℕ) : Type 0 where
  pub located : AllPlaced lists
  pub few : total ≤ 96
  pub room : 4 * total ≤ length rows
  pub indices : (r : ℕ) → r < total → RowIndices lists (indices_in rows r)

-- The verdict on three tracks of three lists, and row r of a buffer with its verdict.
abbrev pub verdict_held : Lists → ℕ → ℕ → ℕ → ℕ
verdict_held lists = verdict_on (held_lists lists)

abbrev pub decided_row : Lists → List ℕ → ℕ → Row
decided_row lists rows r = row_at (verdict_held lists) (base_in rows r) (ours_in rows r) (theirs_in rows r)

-- ---- all of it

-- The counts of the first rows of a buffer.
abbrev pub counts_in : List ℕ → ℕ → Counts
counts_in rows total = record {
  full = how_many total (λ r. eqb (tracks_in rows r) 3);
  half = how_many total (λ r. eqb (tracks_in rows r) 2);
  single = how_many total (λ r. eqb (tracks_in rows r) 1);
}

-- That the rows of three lists can be written: where their tracks are, their sizes, their pairings, and room.
pub record ToWrite (lists : Lists) (sizes : Sizes) (p : TablesOf.Pairings) (rows : List ℕ) : Type 0 where
  pub located : AllPlaced lists
  pub sized : SizesOf (held_lists lists) sizes
  pub paired : Paired (held_lists lists) p sizes
  pub room : 4 * (sizes.base + sizes.ours + sizes.theirs) ≤ length rows

-- ---- the pass over the verdicts

-- That tracks of dimension d can be fused by their values: base's own, and those of track j of ours and track k of theirs, where they are there.
pub record RowToFuse (d j k : ℕ) (base ours theirs : List Float) : Type 0 where
  pub sided : is_side d ≡ true
  pub few : d ≤ 9
  pub of_base : length base ≡ fields d
  pub of_ours : is_track j ≡ true → j * fields d + fields d ≤ length ours
  pub of_theirs : is_track k ≡ true → k * fields d + fields d ≤ length theirs

-- That the rows of base's tracks can be passed over. Base's values are as long as its tracks' fields.
pub record RowsToFuse (base ours theirs : List Float) (sizes : Sizes) (rows : List ℕ) : Type 0 where
  pub sided : is_side sizes.dimension ≡ true
  pub few : sizes.dimension ≤ 9
  pub few-base : sizes.base ≤ 32
  pub of_base : length base ≡ sizes.base * fields sizes.dimension
  pub of_ours : Values ours sizes.ours (fields sizes.dimension)
  pub of_theirs : Values theirs sizes.theirs (fields sizes.dimension)
  pub room : 4 * sizes.base ≤ length rows
  pub ours-indices : (r : ℕ) → r < sizes.base → TrackOrNone sizes.ours (ours_in rows r)
  pub theirs-indices : (r : ℕ) → r < sizes.base → TrackOrNone sizes.theirs (theirs_in rows r)

-- The fusion over a base track by its fields of track j of ours and track k of theirs, by their lists' values.
abbrev pub fusion_of : ℕ → Float → List Float → List Float → ℕ → List Float → ℕ → Fusing
fusion_of d floor base ours j theirs k = fused d floor base (row_of ours (fields d) j) (row_of theirs (fields d) k)

-- The verdict and the base track's fields after the pass, by the verdict v before it, both indices and the fusion.
abbrev pub by_fusion : ℕ → Fusing → List Float → ℕ × List Float
by_fusion v none old = (v, old)
by_fusion v (track t) old = (fuse, t)

abbrev pub after_fusion : ℕ → ℕ → ℕ → Fusing → List Float → ℕ × List Float
after_fusion v j k o old = cond (eqb v conflict && (is_track j && is_track k)) (by_fusion v o old) (v, old)

-- The same of row r of a buffer, which is that of base track r.
abbrev pub pass_at : ℕ → Float → List Float → List Float → List Float → List ℕ → ℕ → ℕ × List Float
pass_at d floor base ours theirs rows r =
    let own = row_of base (fields d) r in
    let j = ours_in rows r in
    let k = theirs_in rows r in
    after_fusion (verdict_in rows r) j k (fusion_of d floor own ours j theirs k) own

abbrev pub passed_row : ℕ → Float → List Float → List Float → List Float → List ℕ → ℕ → Row
passed_row d floor base ours theirs rows r =
    record { base = base_in rows r; ours = ours_in rows r; theirs = theirs_in rows r; verdict = (pass_at d floor base ours theirs rows r).0 }

-- The rows of all base tracks after the pass, and base's values.
abbrev pub passed_rows : Sizes → Float → List Float → List Float → List Float → List ℕ → List Row
passed_rows sizes floor base ours theirs rows = tabulate sizes.base (passed_row sizes.dimension floor base ours theirs rows)

abbrev pub passed_values : Sizes → Float → List Float → List Float → List Float → List ℕ → List Float
passed_values sizes floor base ours theirs rows = matrix sizes.base (fields sizes.dimension) (λ r. nth (pass_at sizes.dimension floor base ours theirs rows r).1)

-- That the fused tracks of an answered merge stand in values, each in the place of its base track.
abbrev pub FusedStand : List ℕ → List ℕ → List ℕ → Float → Outcome Counts → List ℕ → List Float → Type 0
FusedStand base ours theirs floor r rows values =
    (counts : Counts) → r ≡ Ok counts → (q : ℕ) → q < counts.full + counts.half + counts.single → verdict_in rows q ≡ fuse
    → fusion (held_three base ours theirs) floor (base_in rows q) (ours_in rows q) (theirs_in rows q) ≡ track (row_of values (fields (held base).dimension) (base_in rows q))
