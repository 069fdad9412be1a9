-- The return trip of the two calls, as their contracts state them, whatever the memory held that is lent to them. `read_write_calls`: what `read_list`
-- leaves, given to `write_list`, gives the list. `write_read_calls`: what `write_list` leaves, given to `read_list`, gives the values.
use Prim.Native.Nat.{ℕ, ◌+◌, ◌*◌, ◌≤◌}
use native.Mathlib.Omega.{arith}
use mathlib.Core.Path.{◌≡◌, refl, sym, ap, ◌∙◌}
use mathlib.Core.List.{List, ◌++◌}
use lib.Ieee.{Float, binary64, of_bits}
use lib.ListN.{length, take, drop, length-map}
use lib.Seq.{take_at}
use Rattle.kernel.specs.Answer.{Outcome}
use Rattle.kernel.specs.Bytes.{Bytes}
use Rattle.kernel.specs.Lists.{over}
use Rattle.tracks.specs.Layout.{fields}
use Rattle.tracks.specs.Read.{TrackList, reading}
use Rattle.tracks.specs.Write.{written}
use Rattle.tracks.specs.Calls.{doubles, patterns, joined, read_answer, read_values, write_answer, write_bytes}
use Rattle.tracks.proofs.Numbers.Values.{Doubles}
use Rattle.tracks.proofs.Reading.Known.{read_accepted, reading-fits, reading_met}
use Rattle.tracks.proofs.Records.Bytes.{write_accepted}
use Rattle.tracks.proofs.RoundTrip.BothWays.{accepted_fit, joined_fit, read_then_written, written_then_read}
use Rattle.std.specs.Prelude.{Ok}

-- ---- what stands in front of lent memory

over-front : {A : Type 0} (old new : List A) → over old 0 new ≡ new ++ drop (length new) old
unfolding over
over-front old new = let z : 0 + length new ≡ length new = omega arith in ap (λ (i : ℕ). new ++ drop i old) z

front : {A : Type 0} (old new : List A) (n : ℕ) → length new ≡ n → take n (over old 0 new) ≡ new
front old new n e = ap (take n) (over-front old new) ∙ take_at new (drop (length new) old) n e

-- ---- the two trips

-- What `read_list` leaves in any slice that is long enough, the first count * fields values of it, given to `write_list` with the answered count and
-- dimension and any buffer that is long enough, gives the list's bytes in front of what the buffer held.
pub read_write_calls : (l : List ℕ) → Bytes l → (old : List Float) (n d : ℕ) → read_answer (reading l (length old)) ≡ Ok (record { count = n; dimension = d })
    → (out : List ℕ) → length l ≤ length out
    → let values = take (n * fields d) (read_values (reading l (length old)) old) in
    (write_answer (written n d (patterns values) (length out)) ≡ Ok (length l)) × (write_bytes (written n d (patterns values) (length out)) out ≡ l ++ drop (length l) out)
read_write_calls l h old n d e out room = let a = read_accepted (reading l (length old)) e in by a.0 a.1 a.2 a.3
  where
    by : (c : TrackList) → reading l (length old) ≡ Ok c → n ≡ length c.tracks → d ≡ c.dimension
        → let values = take (n * fields d) (read_values (reading l (length old)) old) in
        (write_answer (written n d (patterns values) (length out)) ≡ Ok (length l)) × (write_bytes (written n d (patterns values) (length out)) out ≡ l ++ drop (length l) out)
    by c ok p q =
        let accepted = reading_met l (length old) ok in
        let v = joined c.tracks in
        let needed = length c.tracks * fields c.dimension in
        let long : length (doubles v) ≡ needed = length-map v (of_bits binary64) ∙ (joined_fit (fields c.dimension) c.tracks (accepted_fit l h c accepted)).0 in
        let values : take needed (read_values (reading l (length old)) old) ≡ doubles v =
        ap (λ (o : Outcome TrackList). take needed (read_values o old)) ok ∙ front old (doubles v) needed long in
        rw (p, q, values, read_then_written l h c accepted (length out) room) (refl, over-front out l)

-- For every accepted set of values: what `write_list` leaves in any buffer that is long enough, the first bytes of it up to the answered length, read
-- into any slice that is long enough, gives the count, the dimension and the values, in front of what the slice held.
pub write_read_calls : (n d : ℕ) (values : List Float) → Doubles values → (out : List ℕ) (k : ℕ) → write_answer (written n d (patterns values) (length out)) ≡ Ok k
    → (old : List Float) → n * fields d ≤ length old
    → let l = take k (write_bytes (written n d (patterns values) (length out)) out) in
    (read_answer (reading l (length old)) ≡ Ok (record { count = n; dimension = d })) × (read_values (reading l (length old)) old ≡ values ++ drop (length values) old)
write_read_calls n d values h out k e old room =
    let a = write_accepted (written n d (patterns values) (length out)) e in
    let l = a.0 in
    let list : take k (write_bytes (written n d (patterns values) (length out)) out) ≡ l =
    ap (λ (o : Outcome (List ℕ)). take k (write_bytes o out)) a.1 ∙ front out l k (sym a.2) in
    let r = written_then_read n d values h (length out) l a.1 in
    let c = r.0 in
    let fits = reading-fits l (length old) r.1 (rw (r.3, r.4) room) in
    rw (list, fits) (rw (r.3, r.4) refl, ap (over old 0) r.2 ∙ over-front old values)
