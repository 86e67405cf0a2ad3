use Rattle.std.proofs.Common.{◌≡◌, ◌<◌, ◌-◌, ℕ, length, refl, sym, subst, arith}
use Rattle.std.specs.Prelude.{Vec}
use Rattle.std.specs.declared.alloc.Global.{Global}
use Rattle.std.proofs.lemmas.List.{length-map}
use Rattle.gw_log.specs.State.{records_of}
use Rattle.gw_log.proofs.Founding.{former_last, top_behind, top_alone, top_long, up_same, sealed_as}
use Rattle.gw_log.proofs.Denying.{handed_on, top_whole, former_whole, last_is_open, damaged_same}
use Rattle.gw_log.proofs.opening.last_born.Goals.{then-len-le1+then-first-top+in_ok-former+else-not-is_sealed, else-len-le1, else-len-le1-via-then-len-le1+else-first-top, else-len-le1-via-else-len-le1}
use Rattle.gw_log.proofs.opening.last_born.Goals as goal

pub returns-then-not-is_sealed-clause-up : goal.returns-then-not-is_sealed-clause-up
returns-then-not-is_sealed-clause-up g c = λ honest.
    up_same _ _ _ _ _ _ _ c.read_file.ensures.reads.same (c.in_ok-former.ensures.up honest)

pub returns-clause-up : goal.returns-clause-up
returns-clause-up g c = λ honest. elim c.if-len-le1.branch [
  | then-len-le1+then-first-top+in_ok-former+else-not-is_sealed w ↦
      c.in_ok-records.ensures.up (w.in_ok-former.ensures.reads.back (subst g.D.Disk.honest w.disk-is honest))
  | else-len-le1 w ↦ c.in_ok-records.ensures.up (subst g.D.Disk.honest w.disk-is honest)
]

pub returns-then-not-is_sealed-clause-last : goal.returns-then-not-is_sealed-clause-last
returns-then-not-is_sealed-clause-last g c = λ honest id from head records log ends.
    former_last _ _ _ _ _ log _ _ ends _ _ _ _ c.if-first-top.true (up_same _ _ _ _ _ _ _ c.read_file.ensures.reads.same (c.in_ok-former.ensures.up honest))
    (λ sealed. c.if-not-is_sealed.ensures.not refl (sealed_as _ _ (sym c.deref.ensures.value) sealed))

pub returns-clause-last : goal.returns-clause-last
returns-clause-last g c = λ honest id from head records log ends. elim c.if-len-le1.branch [
  | then-len-le1+then-first-top+in_ok-former+else-not-is_sealed w ↦
      top_behind _ _ _ _ _ log _ _ ends _ _ _ _ w.if-first-top.true
      (up_same _ _ _ _ _ _ _ c.read_file.ensures.reads.same (w.in_ok-former.ensures.up (subst g.D.Disk.honest w.disk-is honest)))
      (sealed_as _ _ w.deref.ensures.value (w.if-not-is_sealed.ensures.sealed refl))
  | else-len-le1 w ↦ elim w.else-len-le1.branch [
    | else-len-le1-via-then-len-le1+else-first-top w' ↦ top_alone _ _ _ _ _ log _ _ ends (λ lt. omega (arith, lt, w'.if-first-top.false))
    | else-len-le1-via-else-len-le1 w' ↦
        let rows = c.in_ok-records.records.items in
        let long : 1 < length (records_of rows) = omega (arith, w'.if-len-le1.false, c.len.ensures, length-map rows (λ (v : Vec ℕ Global). v.items)) in
        top_long _ _ _ _ _ log _ _ ends _ _ _ _ long (c.in_ok-records.ensures.up (subst g.D.Disk.honest w.disk-is honest))
  ]
]

pub returns-in_err-records-clause-damaged : goal.returns-in_err-records-clause-damaged
returns-in_err-records-clause-damaged g c = λ honest segment at fault id from head records log ends.
    top_whole _ _ _ _ _ log _ _ ends at
    (c.in_err-records.ensures.damaged honest segment at (handed_on c.from_residual.result _ _ c.from_residual.ensures fault))

pub returns-in_err-former-clause-damaged : goal.returns-in_err-former-clause-damaged
returns-in_err-former-clause-damaged g c = λ honest segment at fault id from head records log ends.
    let former = c.in_err-former.ensures.damaged honest segment at
    (handed_on c.from_residual-in_err-former.result _ _ c.from_residual-in_err-former.ensures fault) in
    former_whole _ _ _ _ _ log _ _ ends at c.if-first-top.true (damaged_same at (c.args.top - 1) _ _ c.read_file.ensures.reads.same former)

pub returns-then-is_sealed-clause-damaged : goal.returns-then-is_sealed-clause-damaged
returns-then-is_sealed-clause-damaged g c = λ honest segment at fault id from head records log ends.
    let rows = c.in_ok-records.records.items in
    let shut : head.number ≡ c.args.top → g.D.Disk.honest c.read_file.new.disk → ⊥ = λ here was.
    last_is_open _ _ _ _ _ log _ _ ends (records_of rows) _ _ _ here (c.in_ok-records.ensures.up was)
    (sealed_as _ _ c.deref-2.ensures.value (c.if-is_sealed.ensures.sealed refl)) in
    elim c.if-len-le1.branch [
      | then-len-le1+then-first-top+in_ok-former+else-not-is_sealed w ↦
          let was = subst g.D.Disk.honest w.disk-is honest in
          let former = up_same _ _ _ _ _ _ _ c.read_file.ensures.reads.same (w.in_ok-former.ensures.up was) in
          shut (top_behind _ _ _ _ _ log _ _ ends _ _ _ _ w.if-first-top.true former (sealed_as _ _ w.deref.ensures.value (w.if-not-is_sealed.ensures.sealed refl)))
          (w.in_ok-former.ensures.reads.back was)
      | else-len-le1 w ↦
          let was = subst g.D.Disk.honest w.disk-is honest in
          elim w.else-len-le1.branch [
            | else-len-le1-via-then-len-le1+else-first-top w' ↦ shut (top_alone _ _ _ _ _ log _ _ ends (λ lt. omega (arith, lt, w'.if-first-top.false))) was
            | else-len-le1-via-else-len-le1 w' ↦
                let long : 1 < length (records_of rows) = omega (arith, w'.if-len-le1.false, c.len.ensures, length-map rows (λ (v : Vec ℕ Global). v.items)) in
                shut (top_long _ _ _ _ _ log _ _ ends _ _ _ _ long (c.in_ok-records.ensures.up was)) was
          ]
    ]
