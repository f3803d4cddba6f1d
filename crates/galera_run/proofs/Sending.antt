-- What holds of a run behind which the sink sent out what was printed, or failed to.
use Rattle.std.proofs.Common.{◌≡◌, ℕ, List, [], sym, subst, append-nil, inl, inr}
use Rattle.std.specs.Prelude.{Option, Some, None, IfSome, Result, Ok, Err, IfOk, IfErr, OnOk}
use Rattle.std.specs.Io.KnownBytes.{Appends, Keeps}
use Rattle.std.proofs.KnownBytes.{Appends-kept}
use Rattle.outside_io.specs.Outside.{Rose}
use Rattle.galera_run.specs.declared.fault.Finished.{Finished}
use Rattle.galera_run.specs.declared.fault.RunFault.{RunFault}
use Rattle.galera_run.specs.declared.fault.RunFault.TheVariants as stop
use Rattle.galera_run.specs.Reading.{run_of}
use Rattle.galera_run.specs.Writing.{AppendsFront}
use Rattle.galera_run.specs.Feeding.{HasReadCause, HasWriteCause}
use Rattle.galera_run.specs.Outcome.{RunTells, RunStops, IsToSend, SendsOut}

-- ---- what was written stays
front_kept : (u v w : Option (List ℕ)) (all : List ℕ) → AppendsFront u v all → Keeps v w
    → AppendsFront u w all
front_kept u v w all f k = record {
  text = f.text;
  written = Appends-kept u v w f.text f.written k;
  is_front = f.is_front;
}

all_kept : (a u v w : Option (List ℕ)) (done : Finished) → Keeps v w → RunTells a u v done
    → RunTells a u w done
all_kept None u v w done k t = tt
all_kept (Some input) u v w done k t = record {
  is_finished = t.is_finished;
  written = Appends-kept u v w (run_of input).text t.written k;
}

stop_kept : (a b u v w : Option (List ℕ)) (f : RunFault) → Keeps v w → RunStops a b u v f
    → RunStops a b u w f
stop_kept a b u v w stop.Read k t = record {
  taken = t.taken;
  is_read = t.is_read;
  written = Appends-kept u v w _ t.written k;
}
stop_kept None b u v w (stop.Script number c) k t = tt
stop_kept None b u v w stop.Write k t = tt
stop_kept None b u v w stop.NoMemory k t = tt
stop_kept (Some input) b u v w (stop.Script number c) k t = record {
  ending = t.ending;
  written = Appends-kept u v w (run_of input).text t.written k;
}
stop_kept (Some input) b u v w stop.Write k t = front_kept u v w (run_of input).text t k
stop_kept (Some input) b u v w stop.NoMemory k t = record {
  count = t.count;
  written = Appends-kept u v w _ t.written k;
  is_front = t.is_front;
}

-- ---- and where it was not sent out, a front of the whole text was written
front_all : (u v w : Option (List ℕ)) (text : List ℕ) → Appends u v text → Keeps v w
    → AppendsFront u w text
front_all u v w text p k = record {
  text = text;
  written = Appends-kept u v w text p k;
  is_front = ([], sym (append-nil text));
}

behind_all : (a u v w : Option (List ℕ)) (done : Finished) → Keeps v w → RunTells a u v done
    → IfSome a (λ input. AppendsFront u w (run_of input).text)
behind_all None u v w done k t = tt
behind_all (Some input) u v w done k t = front_all u v w (run_of input).text t.written k

behind_refusal : (a b u v w : Option (List ℕ)) (f : RunFault) → IsToSend (Err f) → Keeps v w
    → RunStops a b u v f → IfSome a (λ input. AppendsFront u w (run_of input).text)
behind_refusal None b u v w f due k t = tt
behind_refusal (Some input) b u v w (stop.Script number c) due k t =
    front_all u v w (run_of input).text t.written k
behind_refusal (Some input) b u v w stop.Read due k t = absurd due
behind_refusal (Some input) b u v w stop.Write due k t = absurd due
behind_refusal (Some input) b u v w stop.NoMemory due k t = record {
  text = _;
  written = Appends-kept u v w _ t.written k;
  is_front = t.is_front;
}

-- ---- the clauses of the run behind which that was done
ok_kept : (a u v w : Option (List ℕ)) (ran : Result Finished RunFault) → Keeps v w
    → IfOk ran (RunTells a u v) → IfOk ran (RunTells a u w)
ok_kept a u v w (Ok done) k t = all_kept a u v w done k t
ok_kept a u v w (Err f) k t = tt

err_kept : (a b u v w : Option (List ℕ)) (ran : Result Finished RunFault) → Keeps v w
    → IfErr ran (RunStops a b u v) → IfErr ran (RunStops a b u w)
err_kept a b u v w (Ok done) k t = tt
err_kept a b u v w (Err f) k t = stop_kept a b u v w f k t

behind : (a b u v w : Option (List ℕ)) (ran : Result Finished RunFault) → IsToSend ran → Keeps v w
    → IfOk ran (RunTells a u v) → IfErr ran (RunStops a b u v)
    → IfSome a (λ input. AppendsFront u w (run_of input).text)
behind a b u v w (Ok done) due k ok err = behind_all a u v w done k ok
behind a b u v w (Err f) due k ok err = behind_refusal a b u v w f due k err

read_before : (ran : Result Finished RunFault) (before now : ℕ) → IsToSend ran
    → HasReadCause before now ran → now ≡ before
read_before (Ok done) before now due h = h
read_before (Err (stop.Script number c)) before now due h = h
read_before (Err stop.Read) before now due h = absurd due
read_before (Err stop.Write) before now due h = absurd due
read_before (Err stop.NoMemory) before now due h = h

write_before : (ran : Result Finished RunFault) (before now : ℕ) → IsToSend ran
    → HasWriteCause before now ran → now ≡ before
write_before (Ok done) before now due h = h
write_before (Err (stop.Script number c)) before now due h = h
write_before (Err stop.Read) before now due h = absurd due
write_before (Err stop.Write) before now due h = absurd due
write_before (Err stop.NoMemory) before now due h = h

module _ (ran result : Result Finished RunFault) (at now : ℕ) where
  pub sent_ok : (a u v w : Option (List ℕ)) → SendsOut ran result at now → Keeps v w
      → IfOk ran (RunTells a u v) → IfOk result (RunTells a u w)
  sent_ok a u v w (inl same) k ok =
      subst (λ r. IfOk r (RunTells a u w)) (sym same.0) (ok_kept a u v w ran k ok)
  sent_ok a u v w (inr late) k ok = subst (λ r. IfOk r (RunTells a u w)) (sym late.1) tt

  pub sent_end : (P : Type 0) → SendsOut ran result at now → OnOk ran P → OnOk result P
  sent_end P (inl same) h = subst (λ r. OnOk r P) (sym same.0) h
  sent_end P (inr late) h = subst (λ r. OnOk r P) (sym late.1) tt

  pub sent_err : (a b u v w : Option (List ℕ)) → SendsOut ran result at now → Keeps v w
      → IfOk ran (RunTells a u v) → IfErr ran (RunStops a b u v) → IfErr result (RunStops a b u w)
  sent_err a b u v w (inl same) k ok err =
      subst (λ r. IfErr r (RunStops a b u w)) (sym same.0) (err_kept a b u v w ran k err)
  sent_err a b u v w (inr late) k ok err =
      subst (λ r. IfErr r (RunStops a b u w)) (sym late.1) (behind a b u v w ran late.0 k ok err)

  pub sent_read : (before after : ℕ) → SendsOut ran result at now → HasReadCause before after ran
      → HasReadCause before after result
  sent_read before after (inl same) h =
      subst (λ r. HasReadCause before after r) (sym same.0) h
  sent_read before after (inr late) h =
      subst (λ r. HasReadCause before after r) (sym late.1)
      (read_before ran before after late.0 h)

  pub sent_write : (before : ℕ) → SendsOut ran result at now → HasWriteCause before at ran
      → HasWriteCause before now result
  sent_write before (inl same) h =
      subst (λ r. HasWriteCause before now r) (sym same.0)
      (subst (λ n. HasWriteCause before n ran) (sym same.1) h)
  sent_write before (inr late) h =
      subst (λ r. HasWriteCause before now r) (sym late.1)
      (subst (λ n. Rose n now) (write_before ran before at late.0 h) late.2)
