-- What the functions of a journal are of one with more entries, where the books count.
use Rattle.std.proofs.Common.{◌≡◌, ◌+◌, List, [], ◌∷◌, ◌++◌, length, map, refl, sym, ap, ◌∙◌, arith, zero-add, append_assoc}
use Rattle.std.proofs.lemmas.List.{map-append, length-map}
use Rattle.gw_gate.specs.declared.event.Entry.{Entry}
use Rattle.gw_gate.specs.Journal.{EntrySeen, WasAccepted, WasRefused, WasTaken, WasIssued, pair, arrivals, issued, jobs}
use Rattle.gw_gate.specs.Entries.{entry_seen, entries_seen}

pub arrivals-append : (g h : List EntrySeen) → arrivals (g ++ h) ≡ arrivals g + arrivals h
arrivals-append [] h = sym (zero-add (arrivals h))
arrivals-append (WasAccepted n arrival c ∷ g) h = omega (arith, arrivals-append g h)
arrivals-append (WasRefused arrival code ∷ g) h = omega (arith, arrivals-append g h)
arrivals-append (e ∷ g) h = arrivals-append g h

pub jobs-append : (g h : List EntrySeen) → jobs (g ++ h) ≡ jobs g + jobs h
jobs-append [] h = sym (zero-add (jobs h))
jobs-append (WasTaken n r ∷ g) h = omega (arith, jobs-append g h)
jobs-append (e ∷ g) h = jobs-append g h

pub issued-append : (g h : List EntrySeen) → issued (g ++ h) ≡ issued g ++ issued h
issued-append [] h = refl
issued-append (WasAccepted n arrival c ∷ g) h = ap (λ l. map (pair n) c.receivers ++ l) (issued-append g h) ∙ sym (append_assoc (map (pair n) c.receivers) (issued g) (issued h))
issued-append (WasIssued n r ∷ g) h = ap (λ l. pair n r ∷ l) (issued-append g h)
issued-append (e ∷ g) h = issued-append g h

-- an entry of the program, in the journal as it is seen
pub entered : (items more : List Entry) (e : Entry) → more ≡ items ++ e ∷ [] → entries_seen more ≡ entries_seen items ++ entry_seen e ∷ []
entered items more e is = ap entries_seen is ∙ map-append entry_seen items (e ∷ [])

pub as_long : (items : List Entry) → length (entries_seen items) ≡ length items
as_long items = length-map items entry_seen
