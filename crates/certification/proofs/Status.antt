-- What a status tells of the state that is certified.
use Rattle.std.proofs.Common.{◌≡◌, ℕ, List, ap, ◌∙◌}
use Rattle.finite_map.specs.FiniteMap.{len}
use Rattle.order_event.specs.declared.event.Event.{Event}
use Rattle.cert_meaning.specs.State.{FoldState}
use Rattle.cert_meaning.specs.Fold.{state_at}
use Rattle.cert_index.specs.Count.{latest_of}
use Rattle.cert_index.specs.Index.{entered}
use Rattle.node_meaning.specs.Status.{index_count}
use Rattle.certification.specs.Certifies.{ModelCertification, Certifies, kept}
use Rattle.certification.proofs.Counted.{latest-count}

module _ (order : List Event) (committed certified : ℕ) (c : ModelCertification) (is : Certifies order committed certified c) where
  abbrev s : FoldState
  s = state_at order certified

  pub floor-is : c.state.floor ≡ s.floor
  floor-is = ap (λ (q : FoldState). q.floor) is.state

  pub open-is : len c.state.open_trx ≡ len s.open_trx
  open-is = ap (λ (q : FoldState). len q.open_trx) is.state

  pub entries-are : len (latest_of (entered c.state.commits)) ≡ index_count s committed
  unfolding index_count
  entries-are =
      ap (λ (q : FoldState). len (latest_of (entered q.commits))) is.state ∙ latest-count (kept committed s).commits
