-- What the threads of a service share may be shared by them.
use denote.RattleType.{RattleType}
use denote.Builtin.{u64}
use denote.Exit.{no}
use denote.Param.{arg, param}
use denote.Ref.{NamedLft, ShrRef}
use denote.Param.Send.{IsSend, IsSync, arg_send, arg_sync, param_send, param_sync, shr_send, shr_sync, sendable, view_send, view_sync, whole-keyless}
use denote.Param.SendFields.{as_row_send, as_row_sync, declared_send, declared_sync}
use denote.Struct.Field.{row_field, shr_ref_field}
use denote.Struct.Tuple.{TupleAt, type_at}
use base.Fml.{Lft}
use mathlib.Core.List.{[], ◌∷◌}
use mir.Syntax.{Lifetime, Sym, Ty}
use Rattle.std.proofs.Crossing.{crosses}
use Rattle.std.specs.contracts.marker.PhantomData as PhantomData
use Rattle.gw_folder.proofs.folder.RealFolder.TheSendSync as real
use Rattle.gw_folder.specs.contracts.folder.RealFolder as RealFolder
use Rattle.gw_log.specs.contracts.history.History as History
use Rattle.gw_log.specs.contracts.recorded.Recorded as Recorded
use Rattle.gw_log.specs.contracts.recorded.Recorded.TheInside as Inside
use Rattle.gw_log.specs.declared.recorded.Start as start
use Rattle.std.specs.declared.sync.ledger.Ledger as ledger
use Rattle.std.proofs.sync.ledger.Share.TheSendSync as share
use Rattle.std.specs.contracts.net.SocketAddr as SocketAddr
use Rattle.std.specs.contracts.net.TcpStream as TcpStream
use Rattle.std.specs.contracts.net.unix.UnixListener as Control
use Rattle.std.specs.contracts.net.unix.UnixStream as Local
use Rattle.hl7gate.specs.contracts.gateway.page.Pages as Pages
use Rattle.std.specs.contracts.sync.atomic.AtomicBool as Flag
use Rattle.std.specs.contracts.sync.atomic.AtomicU64 as Count
use Rattle.std.specs.contracts.option.Option as Option
use Rattle.std.specs.contracts.sync.Mutex as Mutex
use Rattle.gw_ack.specs.contracts.stamp.Stamp as Stamp
use Rattle.gw_stream.specs.contracts.fault.RunFault as RunFault
use Rattle.gw_ack.proofs.stamp.Stamp.TheSendSync as stamp
use Rattle.gw_gate.proofs.Crossing.{Chapter-send}
use Rattle.gw_run.proofs.Crossing.{LockedGate-sync, Receipts-send}
use Rattle.gw_delivery.proofs.Crossing.{Plans-sync}
use Rattle.gw_gateway.proofs.Crossing.{Office-send}
use Rattle.gw_page.proofs.Crossing.{Recent-send}
use Rattle.gw_gateway.specs.contracts.office.Office as Office
use Rattle.gw_journal.proofs.journal.Journal.TheSendSync as journal
use Rattle.gw_journal.specs.contracts.job.Done as Done
use Rattle.gw_journal.specs.contracts.job.Job as Job
use Rattle.gw_journal.specs.declared.book.Naming as naming
use Rattle.gw_journal.specs.declared.storage.Storage as storage
use Rattle.hl7gate.specs.contracts.gateway.folder.Folder as Folder
use Rattle.hl7gate.specs.contracts.gateway.hub.Hub as Hub
use Rattle.hl7gate.specs.contracts.gateway.resend.Ask as Ask
use Rattle.hl7gate.specs.contracts.gateway.resend.Asks as Asks
use Rattle.hl7gate.specs.contracts.gateway.lines.Line as Waits
use Rattle.hl7gate.specs.contracts.gateway.lines.Lines as Lines
use Rattle.hl7gate.specs.contracts.gateway.lines.Stand as Stand
use Rattle.hl7gate.specs.contracts.gateway.senders.Sender as Sender
use Rattle.hl7gate.specs.contracts.gateway.watch.Watch as Watch
use Rattle.hl7gate.specs.contracts.outcome.Outcome as Outcome
use Rattle.hl7gate.specs.contracts.tickets.Tickets as Tickets
use Rattle.hl7gate.specs.contracts.threads.Connection as Connection
use Rattle.hl7gate.specs.contracts.threads.Line as Line
use Rattle.hl7gate.specs.contracts.threads.Service as Service

Tickets-send : (L : RattleType) (g : ledger.Ghosts L.Denot) → IsSend (Tickets.the_field L g).row
Tickets-send L g = search (share.the_send, crosses, sendable) depth 60 fits 50000

Outcome-send : IsSend (Outcome.the_field).row
Outcome-send = search (crosses, sendable) depth 60 fits 50000

Service-field : (a : NamedLft) (L R : RattleType) (g : ledger.Ghosts L.Denot) → IsSync R → IsSync (Service.the_field a L R g).row
Service-field a L R g s = search (LockedGate-sync, Receipts-send, Chapter-send, Tickets-send, Outcome-send, stamp.the_sync, s, crosses, sendable) depth 60 fits 50000

-- a reference to it, as a closure captures it
pub Service-shared : (ℓ : Lifetime) (κ : Lft) (a : NamedLft) (L R : RattleType) (g : ledger.Ghosts L.Denot) → IsSync R → IsSend (ShrRef ℓ κ (Service.the_row a L R g))
Service-shared ℓ κ a L R g s = shr_send ℓ κ (Service.the_row a L R g) (as_row_sync (Service.the_field a L R g) (Service-field a L R g s))

Stream-send : IsSend (TcpStream.the_field).row
Stream-send = search (crosses, sendable) depth 60 fits 50000

Address-send : IsSend (SocketAddr.the_field).row
Address-send = search (crosses, sendable) depth 60 fits 50000

Connection-field : IsSend (Connection.the_field).row
Connection-field = search (Stream-send, Address-send, crosses, sendable) depth 60 fits 50000

pub Connection-send : IsSend Connection.the_row
Connection-send = as_row_send Connection.the_field Connection-field

Line-field : (a : NamedLft) → IsSend (Line.the_field a).row
Line-field a = search (Stream-send, crosses, sendable) depth 60 fits 50000

pub Line-send : (a : NamedLft) → IsSend (Line.the_row a)
Line-send a = as_row_send (Line.the_field a) (Line-field a)

-- ---- what the threads of a gateway share

Stand-send : IsSend (Stand.the_field).row
Stand-send = search (crosses, sendable) depth 60 fits 50000

-- a receiver's line
pub Waits-send : IsSend Waits.the_row
Waits-send = as_row_send Waits.the_field (search (Stand-send, crosses, sendable) depth 60 fits 50000)

pub Waits-sync : IsSync Waits.the_row
Waits-sync = as_row_sync Waits.the_field (search (Stand-send, crosses, sendable) depth 60 fits 50000)

Lines-sync : IsSync (Lines.the_field).row
Lines-sync = search (Waits-send, Waits-sync, crosses, sendable) depth 60 fits 50000

-- who waits for the answer of `resend`
Local-send : IsSend (Local.the_field).row
Local-send = search (crosses, sendable) depth 60 fits 50000

Ask-send : IsSend (Ask.the_field).row
Ask-send = search (Waits-send, Waits-sync, Local-send, crosses, sendable) depth 60 fits 50000

Asks-sync : IsSync (Asks.the_field).row
Asks-sync = search (Ask-send, crosses, sendable) depth 60 fits 50000

Watch-sync : IsSync (Watch.the_field).row
Watch-sync = search (Recent-send, crosses, sendable) depth 60 fits 50000

Folder-sync : IsSync (Folder.the_field).row
Folder-sync = search (crosses, sendable) depth 60 fits 50000

pub Sender-send : IsSend Sender.the_row
Sender-send = as_row_send Sender.the_field (search (Stream-send, crosses, sendable) depth 60 fits 50000)

-- where words come in, and who shows the page
pub Control-shared : (ℓ : Lifetime) (κ : Lft) → IsSend (ShrRef ℓ κ Control.the_row)
Control-shared ℓ κ = shr_send ℓ κ Control.the_row (as_row_sync Control.the_field (search (crosses, sendable) depth 60 fits 50000))

Pages-one : (ℓ : Lifetime) (κ : Lft) → IsSend (ShrRef ℓ κ Pages.the_row)
Pages-one ℓ κ = shr_send ℓ κ Pages.the_row (as_row_sync Pages.the_field (search (crosses, sendable) depth 60 fits 50000))

pub Pages-shared : (ℓ : Lifetime) (κ : Lft) → IsSend (Option.the_row (ShrRef ℓ κ Pages.the_row))
Pages-shared ℓ κ = as_row_send (Option.the_field (ShrRef ℓ κ Pages.the_row)) (search (Pages-one, crosses, sendable) depth 60 fits 50000)

Count-sync : IsSync Count.the_row
Count-sync = as_row_sync Count.the_field (search (crosses, sendable) depth 60 fits 50000)

Flag-sync : IsSync Flag.the_row
Flag-sync = as_row_sync Flag.the_field (search (crosses, sendable) depth 60 fits 50000)

Hub-sync : (a : NamedLft) (J S R : RattleType) (j : naming.Ghosts J.Denot) (s : storage.Ghosts S.Denot) → IsSend S → IsSync R → IsSync (Hub.the_row a J S R j s)
Hub-sync a J S R j s h r = declared_sync (Hub.the_type a J S R j s) (
  as_row_sync (row_field (ShrRef a.mir a.lft R)) (shr_sync a.mir a.lft R r),
  (
    as_row_sync Stamp.the_field (search (stamp.the_sync, crosses, sendable)),
    (
      search (crosses, sendable) depth 60 fits 50000,
      (
        search (crosses, sendable) depth 60 fits 50000,
        (
          as_row_sync (shr_ref_field a Folder.the_row tt) (shr_sync a.mir a.lft Folder.the_row (as_row_sync Folder.the_field Folder-sync)),
          (
            journal.the_sync J (Office.the_row J S j s) (Job.the_row J S j s) (Done.the_row J S j s) (Office-send J S j s h),
            (
              Plans-sync,
              (
                as_row_sync Lines.the_field Lines-sync,
                (
                  as_row_sync Watch.the_field Watch-sync,
                  (
                    as_row_sync Asks.the_field Asks-sync,
                    (
                      Count-sync,
                      (
                        Count-sync,
                        (
                          Count-sync,
                          (
                            Count-sync,
                            (
                              Count-sync,
                              (
                                Count-sync,
                                (
                                  Count-sync,
                                  (
                                    Flag-sync,
                                    (
                                      Flag-sync,
                                      (
                                        Flag-sync,
                                        (as_row_sync (Mutex.the_field (Option.the_row RunFault.the_row)) (search (crosses, sendable) depth 60 fits 50000), tt),
                                      ),
                                    ),
                                  ),
                                ),
                              ),
                            ),
                          ),
                        ),
                      ),
                    ),
                  ),
                ),
              ),
            ),
          ),
        ),
      ),
    ),
  ),
)

-- `&Hub`, as a closure captures it
pub Hub-shared : (ℓ : Lifetime) (κ : Lft) (a : NamedLft) (J S R : RattleType) (j : naming.Ghosts J.Denot) (s : storage.Ghosts S.Denot)
    → IsSend S → IsSync R → IsSend (ShrRef ℓ κ (Hub.the_row a J S R j s))
Hub-shared ℓ κ a J S R j s h r = shr_send ℓ κ (Hub.the_row a J S R j s) (Hub-sync a J S R j s h r)

-- ---- the disk of a gateway's log

-- a real folder, by any runtime that threads share
pub RealFolder-send : (a : NamedLft) (R : RattleType) → IsSync R → IsSend (RealFolder.the_row a R)
RealFolder-send a R s = search (real.the_send, s)

pub RealFolder-sync : (a : NamedLft) (R : RattleType) → IsSync R → IsSync (RealFolder.the_row a R)
RealFolder-sync a R s = search (real.the_sync, s)

-- ---- a folder with its history

History-send : IsSend (History.the_field).row
History-send = search (crosses, sendable) depth 60 fits 50000

History-sync : IsSync (History.the_field).row
History-sync = record { shared = λ x b o κ q. whole-keyless _ _ (λ y vs. History-send.owned y vs) q x b o }

Phantom-send : (S : RattleType) → IsSend (PhantomData.the_field S).row
Phantom-send S = search (crosses, sendable) depth 60 fits 50000

Phantom-sync : (S : RattleType) → IsSync (PhantomData.the_field S).row
Phantom-sync S = search (crosses, sendable) depth 60 fits 50000

Inside-send : (C S : RattleType) (g : start.Ghosts S.Denot) → IsSend C → IsSend (Inside.the_row C S g)
Inside-send C S g s = declared_send (Inside.the_type C S g)
    (as_row_send (row_field C) s, (as_row_send History.the_field History-send, (as_row_send (PhantomData.the_field S) (Phantom-send S), tt)))

Inside-sync : (C S : RattleType) (g : start.Ghosts S.Denot) → IsSync C → IsSync (Inside.the_row C S g)
Inside-sync C S g s = declared_sync (Inside.the_type C S g)
    (as_row_sync (row_field C) s, (as_row_sync History.the_field History-sync, (as_row_sync (PhantomData.the_field S) (Phantom-sync S), tt)))

pub Recorded-send : (C S : RattleType) (g : start.Ghosts S.Denot) → IsSend C → IsSend (Recorded.the_row C S g)
Recorded-send C S g s = view_send (Inside.the_row C S g) _ _ _ _ (Inside-send C S g s)

pub Recorded-sync : (C S : RattleType) (g : start.Ghosts S.Denot) → IsSync C → IsSync (Recorded.the_row C S g)
Recorded-sync C S g s = view_sync (Inside.the_row C S g) _ _ _ _ (Inside-sync C S g s)

pub given-send : (δ : Ty) (A : RattleType) → IsSend A → IsSend (param 1 (arg δ no A))
given-send δ A a = param_send 1 (arg δ no A) (arg_send δ no A a)

pub given-sync : (δ : Ty) (A : RattleType) → IsSync A → IsSync (param 1 (arg δ no A))
given-sync δ A a = param_sync 1 (arg δ no A) (arg_sync δ no A a)

-- ---- a closure may be sent where what it captures may

pub number-send : IsSend u64
number-send = search sendable

pub sent-one : (δ : Ty) (ν : Sym) (A : RattleType) → IsSend A → IsSend (param 1 (arg δ no (TupleAt ν (A ∷ []))))
sent-one δ ν A a = param_send 1 (arg δ no (TupleAt ν (A ∷ []))) (arg_send δ no (TupleAt ν (A ∷ []))
    (declared_send (type_at ν (A ∷ [])) (as_row_send (row_field A) a, tt)))

pub sent-two : (δ : Ty) (ν : Sym) (A B : RattleType) → IsSend A → IsSend B → IsSend (param 1 (arg δ no (TupleAt ν (A ∷ B ∷ []))))
sent-two δ ν A B a b = param_send 1 (arg δ no (TupleAt ν (A ∷ B ∷ []))) (arg_send δ no (TupleAt ν (A ∷ B ∷ []))
    (declared_send (type_at ν (A ∷ B ∷ [])) (as_row_send (row_field A) a, (as_row_send (row_field B) b, tt))))
