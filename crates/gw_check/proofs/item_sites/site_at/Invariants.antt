use Rattle.std.proofs.Common.{◌≡◌, drop, List}
use Rattle.gw_maplang.specs.Shapes.{TableValue}
use Rattle.gw_check.specs.Seen.{all_sites}
use Rattle.gw_check.specs.Sites.{site_at}
use Rattle.gw_check.proofs.item_sites.site_at.Given as goal

abbrev pub invariant-loop-site : goal.invariant-loop-site
invariant-loop-site l = (tables : List TableValue) → site_at (all_sites tables l.sites) l.line ≡ site_at (all_sites tables (drop l.site-index l.sites)) l.line
