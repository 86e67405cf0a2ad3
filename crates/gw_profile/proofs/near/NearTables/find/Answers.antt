use Rattle.std.proofs.Common.{◌≡◌, refl}
use Rattle.gw_profile.proofs.Kept.{table_at}
use Rattle.gw_profile.proofs.near.NearTables.find.Goals as goal

pub returns : goal.returns
returns c =
    let lent = c.deref.ensures.value in
    let same = c.if-not-same_bytes.ensures.0 refl in
    let is : c.in_ok-other.other.now.items ≡ c.args.name.now = cc in
    table_at c.args.name.now c.args.tables.now.entries c.in_ok-other.other.now c.in_ok-other.found.now is c.in_ok-other.ensures.value
