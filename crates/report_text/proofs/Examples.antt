-- The texts of worked answers.
use Rattle.std.proofs.Common.{◌≡◌, refl}
use Rattle.std.specs.Prelude.{codes}
use Rattle.std.specs.Fmt.{digits}
use Rattle.wsrep_base.specs.declared.verdict.Verdict.TheVariants as verdict
use Rattle.wsrep_base.specs.declared.verdict.Judged.TheVariants as judged
use Rattle.row_model.specs.declared.calls.Reply.TheVariants as reply
use Rattle.order_event.specs.declared.step.Answer.TheVariants as answer
use Rattle.report_text.specs.Texts.{verdict_text, judged_text, reply_text, answer_text}

fragment_passes : answer_text (answer.Judged 3 judged.Fragment) ≡ codes "PASS 3 FRAGMENT"
unfolding verdict_text judged_text reply_text answer_text digits
fragment_passes = refl

rollback_passes : answer_text (answer.Judged 14 judged.Rollback) ≡ codes "PASS 14 ROLLBACK"
unfolding verdict_text judged_text reply_text answer_text digits
rollback_passes = refl

held_when_certified : answer_text (answer.Judged 4 (judged.Fail (verdict.Held 3))) ≡ codes "FAIL 4 HELD 3"
unfolding verdict_text judged_text reply_text answer_text digits
held_when_certified = refl

broken_transaction : answer_text (answer.Judged 5 (judged.Fail verdict.Broken)) ≡ codes "FAIL 5 BROKEN"
unfolding verdict_text judged_text reply_text answer_text digits
broken_transaction = refl

held_at_a_statement : answer_text (answer.Client (reply.HeldBy 3)) ≡ codes "HELD 3"
unfolding verdict_text judged_text reply_text answer_text digits
held_at_a_statement = refl

report_ordered : answer_text (answer.Reported 20) ≡ codes "REPORTED 20"
unfolding verdict_text judged_text reply_text answer_text digits
report_ordered = refl

status_of_a_node : answer_text (answer.Status 100 99 98 7 12 0) ≡ codes "STATUS 100 99 98 7 12 0"
unfolding verdict_text judged_text reply_text answer_text digits
status_of_a_node = refl

node_left : answer_text (answer.Left 4) ≡ codes "LEFT 4"
unfolding verdict_text judged_text reply_text answer_text digits
node_left = refl

commit_sent_and_not_taken : answer_text (answer.Client reply.Unknown) ≡ codes "UNKNOWN"
unfolding verdict_text judged_text reply_text answer_text digits
commit_sent_and_not_taken = refl

client_of_a_node_that_left : answer_text (answer.Client reply.Disconnected) ≡ codes "DISCONNECTED"
unfolding verdict_text judged_text reply_text answer_text digits
client_of_a_node_that_left = refl

node_that_left : answer_text (answer.Disconnected) ≡ codes "DISCONNECTED"
unfolding verdict_text judged_text reply_text answer_text digits
node_that_left = refl
