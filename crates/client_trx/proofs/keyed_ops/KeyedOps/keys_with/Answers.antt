-- The set has the parts already, or they are new.
use Rattle.std.proofs.Common.{◌≡◌, ◌+◌, true, false, cond, is_some, sym, ap, ◌∙◌}
use Rattle.finite_map.specs.FiniteMap.{len, get}
use Rattle.key_sets.proofs.WithKey.{len-with_key}
use Rattle.client_trx.specs.KeyedOps.{Keyed}
use Rattle.client_trx.proofs.keyed_ops.KeyedOps.keys_with.Goals as goal

pub returns-then-is_some : goal.returns-then-is_some
returns-then-is_some c = λ kind.
    let keys = c.args.self.now.keys in
    let same = ap (λ (all : Keyed). all.keys) c.self.view_is in
    let there : is_some (get keys c.args.parts.now) ≡ true =
    ap (λ keys. is_some (get keys c.args.parts.now)) (sym same)
    ∙ ap is_some (sym c.kind_at.ensures) ∙ sym c.is_some.ensures ∙ c.if-is_some.true in
    c.len.ensures.count ∙ ap len same
    ∙ sym (len-with_key keys c.args.parts.now kind ∙ ap (λ b. cond b (len keys) (len keys + 1)) there)

pub returns-else-is_some : goal.returns-else-is_some
returns-else-is_some c = λ kind.
    let keys = c.args.self.now.keys in
    let same = ap (λ (all : Keyed). all.keys) c.self.view_is in
    let new : is_some (get keys c.args.parts.now) ≡ false =
    ap (λ keys. is_some (get keys c.args.parts.now)) (sym same)
    ∙ ap is_some (sym c.kind_at.ensures) ∙ sym c.is_some.ensures ∙ c.if-is_some.false in
    ap (λ n. n + 1) (c.len-else-is_some.ensures.count ∙ ap len same)
    ∙ sym (len-with_key keys c.args.parts.now kind ∙ ap (λ b. cond b (len keys) (len keys + 1)) new)
