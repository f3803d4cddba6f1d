use Rattle.std.proofs.Common.{◌≡◌, ◌++◌, ap, ◌∙◌}
use Rattle.std.specs.Int.{w64, to_be_bytes}
use Rattle.write_set.specs.Spelling.{keys_text, ops_text}
use Rattle.write_set.proofs.Puts.{on_ok}
use Rattle.state_snapshot.specs.Spelling.{fragment_text}
use Rattle.state_snapshot.proofs.Puts.{four_put}
use Rattle.state_snapshot.proofs.writing.put_fragment.Goals as goal

pub returns : goal.returns
returns c =
    let fragment = c.args.fragment.now in
    let old = c.args.out.now in
    let new = c.put_all_ops.new.out in
    let last = ops_text fragment.ops in
    on_ok c.put_all_ops.result (new ≡ c.put_all_keys.new.out ++ ops_text c.as_slice.result.now) (new ≡ old ++ fragment_text fragment)
    (λ is. four_put old (to_be_bytes w64 fragment.number) (to_be_bytes w64 fragment.last_seen) (keys_text fragment.keys) last
    c.put_u64.new.out c.put_u64-2.new.out c.put_all_keys.new.out new
    c.in_ok-put_u64.ensures.ok c.in_ok-put_u64-2.ensures.ok c.in_ok-put_all_keys.ensures
    (is ∙ ap (λ ops. c.put_all_keys.new.out ++ ops_text ops) c.as_slice.ensures))
    c.put_all_ops.ensures
