-- the text of each answer, and of the rows of a node
use Rattle.std.specs.Prelude.{ℕ, ◌==◌, List, [], ◌∷◌, ◌++◌, codes, decimal, flat_map}
use Rattle.std.specs.List.{before_first}
use Rattle.wsrep_base.specs.declared.verdict.Verdict.{Verdict}
use Rattle.wsrep_base.specs.declared.verdict.Verdict.TheVariants as verdict
use Rattle.wsrep_base.specs.declared.verdict.Judged.{Judged}
use Rattle.wsrep_base.specs.declared.verdict.Judged.TheVariants as judged
use Rattle.row_model.specs.declared.calls.Reply.{Reply}
use Rattle.row_model.specs.declared.calls.Reply.TheVariants as reply
use Rattle.row_model.specs.declared.row.RowItem.{RowItem}
use Rattle.order_event.specs.declared.step.Answer.{Answer}
use Rattle.order_event.specs.declared.step.Answer.TheVariants as answer

-- the numbers in decimal, with a space before each
abbrev pub spaced : List ℕ → List ℕ
spaced numbers = flat_map (λ n. 32 ∷ decimal n) numbers

-- a name's bytes before the first zero byte, or all of them where none is zero
abbrev pub name_text : List ℕ → List ℕ
name_text name = before_first (λ b. b == 0) name

-- why a write set failed
unfoldable pub verdict_text : Verdict → List ℕ
verdict_text verdict.Pass = codes "PASS"
verdict_text verdict.Malformed = codes "MALFORMED"
verdict_text verdict.Stranger = codes "STRANGER"
verdict_text verdict.Repeat = codes "REPEAT"
verdict_text verdict.Future = codes "FUTURE"
verdict_text verdict.Stale = codes "STALE"
verdict_text verdict.Broken = codes "BROKEN"
verdict_text (verdict.Conflict v) = codes "CONFLICT" ++ spaced (v ∷ [])
verdict_text (verdict.Held f) = codes "HELD" ++ spaced (f ∷ [])

-- what certify says of the event with that number
unfoldable pub judged_text : ℕ → Judged → List ℕ
judged_text n judged.View = codes "VIEW" ++ spaced (n ∷ [])
judged_text n judged.Report = codes "REPORT" ++ spaced (n ∷ [])
judged_text n judged.Commit = codes "PASS" ++ spaced (n ∷ []) ++ codes " COMMIT"
judged_text n judged.Fragment = codes "PASS" ++ spaced (n ∷ []) ++ codes " FRAGMENT"
judged_text n judged.Rollback = codes "PASS" ++ spaced (n ∷ []) ++ codes " ROLLBACK"
judged_text n (judged.Fail v) = codes "FAIL" ++ spaced (n ∷ []) ++ codes " " ++ verdict_text v

-- what a client is told
unfoldable pub reply_text : Reply → List ℕ
reply_text reply.Done = codes "OK"
reply_text (reply.Row values) = codes "ROW" ++ spaced values
reply_text reply.Running = codes "RUNNING"
reply_text reply.Pending = codes "PENDING"
reply_text (reply.Committed n) = codes "COMMITTED" ++ spaced (n ∷ [])
reply_text reply.RolledBack = codes "ROLLED BACK"
reply_text reply.NoTrx = codes "NO TRX"
reply_text reply.InTrx = codes "IN TRX"
reply_text reply.NoRow = codes "NO ROW"
reply_text reply.Duplicate = codes "DUPLICATE"
reply_text (reply.NoColumn i) = codes "NO COLUMN" ++ spaced (i ∷ [])
reply_text (reply.Busy s) = codes "BUSY" ++ spaced (s ∷ [])
reply_text (reply.BusyApply n) = codes "BUSY APPLY" ++ spaced (n ∷ [])
reply_text (reply.HeldBy f) = codes "HELD" ++ spaced (f ∷ [])
reply_text reply.TooLarge = codes "TOO LARGE"
reply_text (reply.DeadlockCert v) = codes "DEADLOCK CERT" ++ spaced (v ∷ [])
reply_text (reply.DeadlockBf n) = codes "DEADLOCK BF" ++ spaced (n ∷ [])
reply_text reply.Unknown = codes "UNKNOWN"
reply_text reply.Disconnected = codes "DISCONNECTED"
reply_text reply.NotSynced = codes "NOT SYNCED"

-- the sessions whose transactions were aborted, where there are any
abbrev pub killed_text : List ℕ → List ℕ
killed_text [] = []
killed_text (s ∷ ss) = codes " KILLED" ++ spaced (s ∷ ss)

-- what a step is answered
unfoldable pub answer_text : Answer → List ℕ
answer_text (answer.Client r) = reply_text r
answer_text answer.Nothing = codes "NOTHING"
answer_text (answer.Ordered n) = codes "ORDERED" ++ spaced (n ∷ [])
answer_text (answer.Took n) = codes "TOOK" ++ spaced (n ∷ [])
answer_text answer.Split = codes "SPLIT"
answer_text (answer.Judged n j) = judged_text n j
answer_text (answer.NoUnit n) = codes "NO UNIT" ++ spaced (n ∷ [])
answer_text (answer.Local n) = codes "LOCAL" ++ spaced (n ∷ [])
answer_text (answer.NotYet n) = codes "NOT YET" ++ spaced (n ∷ [])
answer_text (answer.Started n sessions) = codes "STARTED" ++ spaced (n ∷ []) ++ killed_text sessions
answer_text (answer.Finished n) = codes "FINISHED" ++ spaced (n ∷ [])
answer_text (answer.NotReady n) = codes "NOT READY" ++ spaced (n ∷ [])
answer_text (answer.At n) = codes "AT" ++ spaced (n ∷ [])
answer_text (answer.Reported n) = codes "REPORTED" ++ spaced (n ∷ [])
answer_text answer.Disconnected = codes "DISCONNECTED"
answer_text answer.NotSynced = codes "NOT SYNCED"
answer_text (answer.Status taken certified committed floor entries open_trx) =
    codes "STATUS" ++ spaced (taken ∷ certified ∷ committed ∷ floor ∷ entries ∷ open_trx ∷ [])
answer_text (answer.Left n) = codes "LEFT" ++ spaced (n ∷ [])
answer_text answer.StillJoined = codes "STILL JOINED"
answer_text (answer.NotDrained taken committed) =
    codes "NOT DRAINED" ++ spaced (taken ∷ committed ∷ [])
answer_text (answer.Joining view member) =
    codes "JOINING" ++ spaced (view ∷ []) ++ codes " MEMBER" ++ spaced (member ∷ [])
answer_text answer.NotJoining = codes "NOT JOINING"
answer_text answer.NoDonor = codes "NO DONOR"
answer_text (answer.DonorBehind view at) = codes "DONOR BEHIND" ++ spaced (view ∷ at ∷ [])
answer_text (answer.DonorBusy certified committed) =
    codes "DONOR BUSY" ++ spaced (certified ∷ committed ∷ [])
answer_text (answer.Ist first last) = codes "IST" ++ spaced (first ∷ last ∷ [])
answer_text (answer.Sst at) = codes "SST" ++ spaced (at ∷ [])

-- the line of a step: its line number in the input, and its answer
unfoldable pub line_text : ℕ → Answer → List ℕ
line_text number said = decimal number ++ codes " " ++ answer_text said ++ codes "\n"

-- the line of a row: where it stands, and its values
abbrev pub row_text : RowItem → List ℕ
row_text item =
    codes "row " ++ name_text item.id.table ++ codes " " ++ name_text item.id.row ++ spaced item.row
    ++ codes "\n"

-- the lines of a node: how far it has committed, and the committed rows
unfoldable pub node_text : ℕ → ℕ → List RowItem → List ℕ
node_text node at rows =
    codes "node" ++ spaced (node ∷ []) ++ codes " at" ++ spaced (at ∷ []) ++ codes "\n"
    ++ flat_map row_text rows
