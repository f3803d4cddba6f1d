-- what a node looks for among the live transactions of its sessions
use Rattle.std.specs.Prelude.{◌==◌, Bool}
use Rattle.client_trx.specs.Live.{Live}
use Rattle.trx_replay.specs.Replay.{is_certified_at, commits_at}
use Rattle.node_parts.specs.declared.transactions.Wanted.{Wanted}
use Rattle.node_parts.specs.declared.transactions.Wanted.TheVariants.{Begin, CertifiedAt, CommitsAt}

-- whether the transaction is the wanted one
abbrev pub is_wanted : Wanted → Live → Bool
is_wanted (Begin begin) t = t.trx.begin == begin
is_wanted (CertifiedAt number) t = is_certified_at number t.status
is_wanted (CommitsAt number) t = commits_at number t.status
