-- Why an event isn't put, as a gateway says it.
use Rattle.gw_journal.specs.declared.fault.JournalFault.{JournalFault}
use Rattle.gw_journal.specs.declared.fault.JournalFault.TheVariants as journal
use Rattle.gw_ledger.specs.declared.fault.LedgerFault.{LedgerFault}
use Rattle.gw_ledger.specs.declared.fault.LedgerFault.TheVariants as ledger
use Rattle.gw_gateway.specs.declared.fault.PutFault.{PutFault}
use Rattle.gw_gateway.specs.declared.fault.PutFault.TheVariants as put

-- the journal's own fault
abbrev pub of_journal : JournalFault → PutFault
of_journal journal.Memory = put.Memory
of_journal journal.Disk = put.Disk
of_journal _ = put.Full

abbrev pub of_ledger : LedgerFault → PutFault
of_ledger (ledger.Journal fault) = of_journal fault
of_ledger ledger.Unlawful = put.Unlawful
of_ledger ledger.Stale = put.Stale
