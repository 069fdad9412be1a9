-- The list has room for its two first bytes, and for its records after them.
use Rattle.std.proofs.Common.{refl, arith}
use lib.ListN.{length-set}
use Rattle.tracks.proofs.Records.Bytes.{listed_room, listed_tracks}
use Rattle.tracks.proofs.write.write_list.Goals as goal

pub bounds-out-1 : goal.bounds-out-1
bounds-out-1 c = let x = c.args in simp length-set (omega (arith, listed_room x.values.now x.n x.d _ _ c.in_ok-length.ensures))

pub write_tracks-requires : goal.write_tracks-requires
write_tracks-requires c = let x = c.args in listed_tracks x.values.now x.n x.d _ _ c.in_ok-length.ensures x.out.now refl
