use Rattle.std.proofs.Common.{◌≡◌, ◌++◌, take}
use Rattle.report_text.specs.Texts.{spaced}
use Rattle.report_text.proofs.parts.append_sessions.Given as goal

abbrev pub invariant-loop-session : goal.invariant-loop-session
invariant-loop-session l = l.text ≡ l.initial.text ++ spaced (take l.session-index l.sessions)
