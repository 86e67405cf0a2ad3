-- How a gateway stands: a line for the whole and one for each receiver, or the same as JSON.
use Rattle.std.specs.Prelude.{ℕ, Bool, List, [], ◌∷◌, ◌++◌, codes, decimal, flat_map, if◌then◌else◌}
use Rattle.std.specs.Char.Escape.{escape_ascii}
use Rattle.gw_page.specs.declared.figures.Receiver.{Receiver}
use Rattle.gw_page.specs.declared.figures.Figures.{Figures}

-- a text with each byte that doesn't print as `\n`, `\xff` and the like
abbrev pub printed : List ℕ → List ℕ
printed text = flat_map escape_ascii text

-- words with a number behind them
unfoldable pub field : List ℕ → ℕ → List ℕ
field words n = words ++ decimal n

unfoldable pub flag : List ℕ → Bool → List ℕ
flag words b = if b then words ++ codes "true" else words ++ codes "false"

-- ---- to be read

unfoldable pub who : Receiver → List ℕ
who r = printed r.name.items ++ codes " at " ++ printed r.address.items ++ codes ": "

unfoldable pub stand : Receiver → List ℕ
stand r = if r.is_held then codes "held" else if r.is_connected then codes "connected" else codes "not connected"

unfoldable pub numbers : Receiver → List ℕ
numbers r = field (codes ", ") r.waiting ++ field (codes " wait, the first for ") r.oldest
    ++ field (codes " s, taken ") r.aa ++ field (codes ", refused ") r.refused ++ field (codes ", lie refused ") r.lying ++ codes "\n"

-- a receiver's line
unfoldable pub line : Receiver → List ℕ
line r = who r ++ stand r ++ numbers r

abbrev pub lines : List Receiver → List ℕ
lines receivers = flat_map line receivers

unfoldable pub traffic : Figures → List ℕ
traffic f = field (codes "plan ") f.plan ++ field (codes ", accepted ") f.accepted ++ field (codes ", refused ") f.refused
    ++ field (codes ", ") f.open ++ field (codes " connections of ") f.sessions

unfoldable pub room : Figures → List ℕ
room f = if f.is_short then codes ", disk is short of room\n" else codes ", disk has room\n"

-- the line for the whole
unfoldable pub summary : Figures → List ℕ
summary f = traffic f ++ room f

-- ---- as JSON, in one line

unfoldable pub member : Receiver → List ℕ
member r = codes "{\"name\":\"" ++ printed r.name.items ++ codes "\""

unfoldable pub counted : Receiver → List ℕ
counted r = field (codes ",\"waiting\":") r.waiting ++ field (codes ",\"first_waits_seconds\":") r.oldest
    ++ field (codes ",\"taken\":") r.aa ++ field (codes ",\"refused\":") r.refused ++ field (codes ",\"lie_refused\":") r.lying ++ codes "}"

-- a receiver
unfoldable pub object : Receiver → List ℕ
object r = member r ++ flag (codes ",\"connected\":") r.is_connected ++ flag (codes ",\"held\":") r.is_held ++ counted r

-- a receiver behind another
unfoldable pub next : Receiver → List ℕ
next r = codes "," ++ object r

abbrev pub objects : List Receiver → List ℕ
objects [] = []
objects (r ∷ receivers) = object r ++ flat_map next receivers

unfoldable pub totals : Figures → List ℕ
totals f = field (codes "{\"plan\":") f.plan ++ field (codes ",\"accepted\":") f.accepted ++ field (codes ",\"refused\":") f.refused
    ++ field (codes ",\"connections\":") f.open ++ field (codes ",\"sessions\":") f.sessions

-- what stands before the receivers
unfoldable pub head : Figures → List ℕ
head f = totals f ++ flag (codes ",\"short_of_room\":") f.is_short ++ codes ",\"receivers\":["
