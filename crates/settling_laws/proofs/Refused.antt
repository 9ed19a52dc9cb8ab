-- What a settle leaves, and steps that are none of one.
use Rattle.std.proofs.Common.{◌≡◌, ◌≢◌, ℕ, List, [], ◌∷◌, refl, sym, ap, ◌∙◌, subst, None, true, false}
use Rattle.replication_laws.specs.Cluster.{ClusterState, seat, send}
use Rattle.replication_laws.specs.Events.{nudges}
use Rattle.settling_laws.specs.Settling.{next_job, Receipt, Fault, answered, Stage, Jobs, Letters, Rest, Turn, turn, SettleStep, Perform, Nudge, Follow_up, Deliver, Forget, Stepping, last_turn, Settles}
use Rattle.settling_laws.specs.Literals.{alone, waiting, delivered, calm, busy}
use Rattle.settling_laws.proofs.Ending.{at_rest}

-- ---- what is left

-- no messages, the first number to come, and no job
pub record IsLeft (w : ClusterState) : Type 0 where
  pub mail : w.mail ≡ []
  pub last : w.last ≡ 0
  pub none : next_job w ≡ None

stage_of : (t : Turn) (s : Stage) (w : ClusterState) → t ≡ turn s w → t.stage ≡ s
stage_of t s w e = ap (λ (y : Turn). y.stage) e

apart : (t : Turn) (s : Stage) → t.stage ≡ s → (s ≡ Rest → ⊥) → t.stage ≢ Rest
apart t s e ne z = ne (sym e ∙ z)

left : (now : ℕ) (t : Turn) (turns : List Turn) → Stepping now t turns → t.stage ≢ Rest → (last_turn t turns).stage ≡ Rest → IsLeft (last_turn t turns).cluster
left now t [] steps ne r = absurd (ne r)
left now t (x ∷ xs) steps ne r = go steps.0 (λ n. left now x xs steps.1 n r)
  where
    same : (x : Turn) (xs : List Turn) → x.stage ≡ Rest → Stepping now x xs → last_turn x xs ≡ x
    same x [] rest s = refl
    same x (y ∷ ys) rest s = absurd (at_rest now x y rest s.0)

    go : SettleStep now t x → (x.stage ≢ Rest → IsLeft (last_turn x xs).cluster) → IsLeft (last_turn x xs).cluster
    go (Perform k a s next e) on = on (apart x Jobs (stage_of x Jobs (answered a k t.cluster) e) (λ z. cc z))
    go (Nudge s next e) on = on (apart x Letters (stage_of x Letters (send t.cluster (nudges t.cluster)) e) (λ z. cc z))
    go (Follow_up k a s next e) on = on (apart x Letters (stage_of x Letters (answered a k t.cluster) e) (λ z. cc z))
    go (Deliver n s l none next is e) on = on (apart x Letters (ap (λ (y : Turn). y.stage) e) (λ z. cc z))
    go (Forget s none next e) on =
        let rest : x.stage ≡ Rest = ap (λ (y : Turn). y.stage) e in
        subst (λ (y : Turn). IsLeft y.cluster) (sym (same x xs rest steps.1 ∙ e))
        (record { mail = refl; last = refl; none = none })

pub settle_leaves : (now : ℕ) (w w' : ClusterState) → Settles now w w' → (w'.mail ≡ []) × (w'.last ≡ 0) × (next_job w' ≡ None)
settle_leaves now w w' s =
    let at : last_turn (turn Jobs w) s.turns ≡ turn Rest w' = s.ends in
    let l = left now (turn Jobs w) s.turns s.steps (λ z. cc z) (ap (λ (y : Turn). y.stage) at) in
    let k = subst (λ (y : Turn). IsLeft y.cluster) at l in
    (k.mail, k.last, k.none)

-- ---- refused steps

-- no rest while a message waits, be it kept or forgotten
pub waits_on : (now : ℕ) (w : ClusterState) → SettleStep now (turn Letters waiting) (turn Rest w) → ⊥
waits_on now w (Perform k a s next e) = cc s
waits_on now w (Nudge s next e) = cc s
waits_on now w (Follow_up k a s next e) = cc next
waits_on now w (Deliver n s l none next is e) = (let z : Rest ≡ Letters = ap (λ (y : Turn). y.stage) e in cc z)
waits_on now w (Forget s none next e) = cc next

-- no second nudge
pub nudged_once : (now : ℕ) → SettleStep now (turn Letters calm) (turn Letters (send calm (nudges calm))) → ⊥
nudged_once now (Perform k a s next e) = cc s
nudged_once now (Nudge s next e) = cc s
nudged_once now (Follow_up k a s next e) = cc next
nudged_once now (Deliver n s l none next is e) = cc next
nudged_once now (Forget s none next e) = (let z : Letters ≡ Rest = ap (λ (y : Turn). y.stage) e in cc z)

-- who has a job neither stays as it is without it, nor up behind a fault
pub faults_stop : (now : ℕ) → SettleStep now (turn Jobs busy) (turn Jobs calm) → ⊥
faults_stop now (Perform k Receipt s next e) =
    let one : 1 ≡ k = cc next in
    let z : turn Jobs calm ≡ turn Jobs (answered Receipt 1 busy) = subst (λ (i : ℕ). turn Jobs calm ≡ turn Jobs (answered Receipt i busy)) (sym one) e in
    let y : 0 ≡ 1 = ap (λ (t : Turn). t.cluster.last) z in cc y
faults_stop now (Perform k Fault s next e) =
    let one : 1 ≡ k = cc next in
    let z : turn Jobs calm ≡ turn Jobs (answered Fault 1 busy) = subst (λ (i : ℕ). turn Jobs calm ≡ turn Jobs (answered Fault i busy)) (sym one) e in
    let y : true ≡ false = ap (λ (t : Turn). (seat t.cluster 1).up) z in cc y
faults_stop now (Nudge s next e) = cc next
faults_stop now (Follow_up k a s next e) = cc s
faults_stop now (Deliver n s l none next is e) = cc l
faults_stop now (Forget s none next e) = cc s

-- numbering doesn't go on
pub numbers_begin_again : (now : ℕ) → SettleStep now (turn Letters delivered) (turn Rest (alone None [] 1)) → ⊥
numbers_begin_again now (Perform k a s next e) = cc s
numbers_begin_again now (Nudge s next e) = cc s
numbers_begin_again now (Follow_up k a s next e) = cc next
numbers_begin_again now (Deliver n s l none next is e) = cc next
numbers_begin_again now (Forget s none next e) = (let y : 1 ≡ 0 = ap (λ (t : Turn). t.cluster.last) e in cc y)

-- no message is delivered before the jobs are done
pub jobs_come_first : (now : ℕ) → SettleStep now (turn Jobs busy) (turn Letters (send busy (nudges busy))) → ⊥
jobs_come_first now (Perform k a s next e) = (let z : Letters ≡ Jobs = ap (λ (y : Turn). y.stage) e in cc z)
jobs_come_first now (Nudge s next e) = cc next
jobs_come_first now (Follow_up k a s next e) = cc s
jobs_come_first now (Deliver n s l none next is e) = cc l
jobs_come_first now (Forget s none next e) = cc s
