-- Whether a gateway is well, and what is said of its health.
use Rattle.std.specs.Prelude.{ℕ, Bool, not, ◌&&◌, ◌||◌, ◌==◌, nat_le, List, [], ◌++◌, codes, decimal, flat_map, if◌then◌else◌}
use Rattle.std.specs.List.{list_all}
use Rattle.gw_page.specs.declared.figures.Receiver.{Receiver}
use Rattle.gw_page.specs.declared.figures.Figures.{Figures}
use Rattle.gw_page.specs.Status.{field}

-- connected, or not for as many seconds at most
abbrev pub is_here : ℕ → Receiver → Bool
is_here late r = r.is_connected || nat_le r.down late

-- and its first doesn't wait for longer
abbrev pub is_near : ℕ → Receiver → Bool
is_near late r = is_here late r && nat_le r.oldest late

abbrev pub is_well : Figures → Bool
is_well f = not f.has_failed && not f.is_short && list_all (is_near f.late) f.receivers.items

unfoldable pub why : Bool → Receiver → List ℕ
why here r = if here then field (codes " has taken nothing for ") r.oldest else field (codes " has not been connected for ") r.down

unfoldable pub hold : Receiver → List ℕ
hold r = if r.is_held then codes " s; it is held\n" else codes " s\n"

unfoldable pub complaint : ℕ → Receiver → List ℕ
complaint late r = codes "receiver " ++ r.name.items ++ why (is_here late r) r ++ hold r

-- the line of a receiver that is late, whatever its connection says
unfoldable pub reason : ℕ → Receiver → List ℕ
reason late r = if is_near late r then [] else complaint late r

unfoldable pub failure : Figures → List ℕ
failure f = if f.has_failed then codes "the gateway can't go on\n" else []

unfoldable pub shortage : Figures → List ℕ
shortage f = if f.is_short then codes "the disk is short of room\n" else []

unfoldable pub reasons : Figures → List ℕ
reasons f = failure f ++ shortage f ++ flat_map (reason f.late) f.receivers.items

-- what lies refused is no reason
unfoldable pub lain : Receiver → List ℕ
lain r = codes "receiver " ++ r.name.items ++ codes ": messages refused and not sent again: " ++ decimal r.lying ++ codes "\n"

unfoldable pub note : Receiver → List ℕ
note r = if r.lying == 0 then [] else lain r

abbrev pub notes : List Receiver → List ℕ
notes receivers = flat_map note receivers

unfoldable pub verdict : Figures → List ℕ
verdict f = if is_well f then codes "ok\n" else reasons f

-- the whole text
unfoldable pub health : Figures → List ℕ
health f = verdict f ++ notes f.receivers.items
