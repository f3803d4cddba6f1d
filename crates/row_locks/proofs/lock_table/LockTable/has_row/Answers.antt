-- To look through all locks is to look through the holder's keys.
use Rattle.std.proofs.Common.{◌≡◌, rules, tests, ◌∙◌, ap}
use Rattle.std.specs.List.{list_any}
use Rattle.std.proofs.lemmas.Iterator.Consumers.{YieldsList-from_rest}
use Rattle.std.proofs.lemmas.Iterator.Search.{any_from_yields_List}
use Rattle.row_locks.specs.Locks.{LockState, keys_at}
use Rattle.row_locks.specs.LockTable.{has_row_of}
use Rattle.row_locks.specs.declared.lock_table.Lock.{Lock}
use Rattle.row_locks.specs.declared.lock_table.LockKey.{LockKey}
use Rattle.row_locks.proofs.TableLemmas.{is_row_at, rows_in_table}
use Rattle.row_locks.proofs.lock_table.LockTable.has_row.Goals as goal

pub returns : goal.returns
returns c =
    let table = c.self.inside.locks.entries in
    let test = λ (e : LockKey × Lock). is_row_at c.args.holder c.args.table.now e.0 in
    let over_table : c.any.result ≡ list_any test table =
    any_from_yields_List test _ _ c.any.result c.any.ensures.ran
    (YieldsList-from_rest table c.iter-locks.ensures.rest) (λ x b q k. search (rules, tests)) in
    over_table ∙ rows_in_table table c.args.holder c.args.table.now
    ∙ ap (λ (s : LockState). has_row_of (keys_at s.locks c.args.holder) c.args.table.now) c.self.view_is
