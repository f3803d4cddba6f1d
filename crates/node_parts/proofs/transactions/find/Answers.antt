use Rattle.std.proofs.Common.{◌≡◌, ℕ, ◌∙◌, true, sym, ap, arith, rules}
use Rattle.std.specs.Prelude.{option_map}
use Rattle.std.specs.Option.{option_copied}
use Rattle.client_trx.specs.Live.{Live}
use Rattle.node_parts.specs.Sessions.{is_wanted}
use Rattle.node_parts.proofs.SearchLaws.{first_found, nothing_found}
use Rattle.node_parts.proofs.transactions.find.Goals as goal

pub returns-in-loop-session-clause-value : goal.returns-in-loop-session-clause-value
returns-in-loop-session-clause-value c =
    let passes : c.is_wanted.result ≡ true = search rules in
    ap (option_map (λ (e : ℕ × Live). e.0))
    (sym (first_found (λ e. is_wanted c.args.wanted e.1) c.args.live.now c.loop-session.session c.in-Some.trx.now
    (sym c.get.ensures ∙ ap option_copied c.in-Some.is) c.loop-session.invariant (sym c.is_wanted.ensures ∙ passes)))

pub returns-clause-value : goal.returns-clause-value
returns-clause-value c =
    ap (option_map (λ (e : ℕ × Live). e.0))
    (sym (nothing_found (λ e. is_wanted c.args.wanted e.1) c.args.live.now c.loop-session.session
    c.loop-session.invariant
    (λ q y there. let h = c.end-session-end.ensures.above q y there in omega (arith, h))))
