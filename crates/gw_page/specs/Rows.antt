-- The rows of the page, and what holds of a text that has them.
use Rattle.std.specs.Prelude.{◌≡◌, ℕ, List, [], ◌++◌, codes, decimal, take, drop, flat_map, bytes_eq, if◌then◌else◌}
use Rattle.gw_page.specs.declared.figures.Receiver.{Receiver}
use Rattle.gw_page.specs.declared.figures.Refusal.{Refusal}
use Rattle.gw_page.specs.Escapes.{escaped}

-- the part stands somewhere in the text
pub record Shows (part text : List ℕ) : Type 0 where
  pub before : List ℕ
  pub after : List ℕ
  pub whole : text ≡ before ++ part ++ after

-- the text goes on
abbrev pub Extends : List ℕ → List ℕ → Type 0
Extends old new = (more : List ℕ) × (new ≡ old ++ more)

unfoldable pub cell : List ℕ → List ℕ
cell text = codes "<td>" ++ text ++ codes "</td>"

-- how a receiver stands, in words
unfoldable pub connection : Receiver → List ℕ
connection r = if r.is_connected then codes "connected" else codes "<strong>not connected</strong> for " ++ decimal r.down ++ codes " s"

unfoldable pub standing : Receiver → List ℕ
standing r = if r.is_held then connection r ++ codes ", held" else connection r

-- who it is, with its name escaped
unfoldable pub header : Receiver → List ℕ
header r = codes "<th scope=\"row\">" ++ escaped r.name.items ++ codes "</th><td>" ++ standing r ++ codes "</td>"

unfoldable pub counts : Receiver → List ℕ
counts r = cell (decimal r.waiting) ++ cell (decimal r.oldest) ++ cell (decimal r.sent)
    ++ cell (decimal r.aa) ++ cell (decimal r.ae) ++ cell (decimal r.ar) ++ cell (decimal r.lying)

-- a receiver's row
unfoldable pub row : Receiver → List ℕ
row r = codes "<tr>" ++ header r ++ counts r ++ cell (escaped r.why.items) ++ codes "</tr>\n"

abbrev pub rows : List Receiver → List ℕ
rows receivers = flat_map row receivers

unfoldable pub date : List ℕ → List ℕ
date t = take 4 t ++ codes "-" ++ take 2 (drop 4 t) ++ codes "-" ++ take 2 (drop 6 t)

unfoldable pub clock : List ℕ → List ℕ
clock t = take 2 (drop 8 t) ++ codes ":" ++ take 2 (drop 10 t) ++ codes ":" ++ take 2 (drop 12 t)

-- a time as it is read: YYYY-MM-DD HH:MM:SS
unfoldable pub readable : List ℕ → List ℕ
readable t = date t ++ codes " " ++ clock t

-- what a condition code says (HL7 table 0357), nothing of another one
unfoldable pub rejected : List ℕ → List ℕ
rejected code = if bytes_eq code (codes "200") then codes " Unsupported message type"
    else if bytes_eq code (codes "201") then codes " Unsupported event code"
    else if bytes_eq code (codes "202") then codes " Unsupported processing id"
    else if bytes_eq code (codes "203") then codes " Unsupported version id"
    else if bytes_eq code (codes "204") then codes " Unknown key identifier"
    else if bytes_eq code (codes "205") then codes " Duplicate key identifier"
    else if bytes_eq code (codes "206") then codes " Application record locked"
    else if bytes_eq code (codes "207") then codes " Application internal error" else []

unfoldable pub meaning : List ℕ → List ℕ
meaning code = if bytes_eq code (codes "100") then codes " Segment sequence error"
    else if bytes_eq code (codes "101") then codes " Required field missing"
    else if bytes_eq code (codes "102") then codes " Data type error"
    else if bytes_eq code (codes "103") then codes " Table value not found" else rejected code

-- a code, and what it says
unfoldable pub reason : List ℕ → List ℕ
reason code = codes "<td>" ++ escaped code ++ meaning code ++ codes "</td>"

-- a refusal's row: its texts are escaped
unfoldable pub entry : Refusal → List ℕ
entry r = codes "<tr>" ++ cell (readable r.time) ++ cell (decimal r.session) ++ cell (escaped r.from.items)
    ++ cell (escaped r.number.items) ++ cell (escaped r.answer.items) ++ reason r.code.items ++ cell (escaped r.place.items) ++ codes "</tr>\n"

abbrev pub entries : List Refusal → List ℕ
entries refusals = flat_map entry refusals
