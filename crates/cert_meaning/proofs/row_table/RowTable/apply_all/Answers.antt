use Rattle.std.proofs.Common.{◌≡◌, ◌+◌, ◌∷◌, [], ◌++◌, take, sym, ap, ◌∙◌, refl, arith, add-one}
use Rattle.std.proofs.Math.Seq.{take-suc}
use Rattle.row_model.specs.Rows.{op_on, ops_on}
use Rattle.cert_meaning.proofs.RowLemmas.{ops_on-more}
use Rattle.cert_meaning.proofs.row_table.RowTable.apply_all.Goals as goal

pub loop-op-init : goal.loop-op-init
unfolding ops_on
loop-op-init c = record { rows_are = refl; room = omega arith }

pub loop-op-preserved : goal.loop-op-preserved
loop-op-preserved c =
    let before = take c.loop-op.op-index c.args.ops.now in
    let more : take (c.loop-op.op-index + 1) c.args.ops.now ≡ before ++ c.op-item.result ∷ [] =
    ap (λ n. take n c.args.ops.now) (add-one c.loop-op.op-index)
    ∙ take-suc c.args.ops.now c.loop-op.op-index c.op-item.result c.loop-op-test.true
    ∙ ap (λ op. before ++ op ∷ []) (sym c.op-item.is) in
    record {
      rows_are = c.apply.ensures.rows ∙ ap (λ rows. op_on rows c.op-item.result) c.loop-op.invariant.rows_are
          ∙ sym (ops_on-more before c.op-item.result c.args.self.now.rows)
          ∙ ap (λ ops. ops_on ops c.args.self.now.rows) (sym more);
      room = omega arith;
    }
