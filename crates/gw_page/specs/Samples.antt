-- The samples of a receiver, in Prometheus' text format (version 0.0.4): a name, a label, a number.
use Rattle.std.specs.Prelude.{ℕ, Bool, List, ◌++◌, codes, decimal, flat_map, if◌then◌else◌}
use Rattle.gw_page.specs.declared.figures.Receiver.{Receiver}
use Rattle.gw_page.specs.declared.figure.Figure.{Figure}
use Rattle.gw_page.specs.Escapes.{quoted}

abbrev pub as_number : Bool → ℕ
as_number b = if b then 1 else 0

abbrev pub figure_of : Figure → Receiver → ℕ
figure_of Figure.Connected r = as_number r.is_connected
figure_of Figure.Held r = as_number r.is_held
figure_of Figure.Due r = r.waiting
figure_of Figure.Oldest r = r.oldest
figure_of Figure.Sent r = r.sent
figure_of Figure.Lying r = r.lying

unfoldable pub label : Receiver → List ℕ
label r = codes "{receiver=\"" ++ quoted r.name.items ++ codes "\"} "

unfoldable pub sample : List ℕ → Figure → Receiver → List ℕ
sample name figure r = name ++ label r ++ decimal (figure_of figure r) ++ codes "\n"

abbrev pub each : List ℕ → Figure → List Receiver → List ℕ
each name figure receivers = flat_map (sample name figure) receivers

-- how many messages each receiver is due
abbrev pub samples : List Receiver → List ℕ
samples receivers = each (codes "hl7gate_due") Figure.Due receivers
