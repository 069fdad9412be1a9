-- An entry of the lower triangle is among the fields, and so is the one that an upper entry mirrors.
use Rattle.std.proofs.Common.{arith}
use Rattle.compare.proofs.Covariance.{field_within}
use Rattle.compare.proofs.fields.covariance_entry.Goals as goal

pub bounds-v-lower_field : goal.bounds-v-lower_field
bounds-v-lower_field c = omega (arith, c.lower_field.ensures, field_within c.args.d c.args.i c.args.j c.requires.1 c.if-j-i.true, c.requires.0.enough)

pub bounds-v-lower_field-else-j-i : goal.bounds-v-lower_field-else-j-i
bounds-v-lower_field-else-j-i c = omega (arith, c.lower_field-else-j-i.ensures, field_within c.args.d c.args.j c.args.i c.requires.2 (omega arith), c.requires.0.enough)
