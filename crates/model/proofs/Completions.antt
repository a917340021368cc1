use Rattle.std.proofs.Common.{◌≡◌, ℕ, ◌<◌, true, eqb, ◌≢◌, sym, refl, ap, ◌∙◌, arith}
use native.Mathlib.Decide.{ℕ_discrete}
use Rattle.std.proofs.lemmas.Bool.{eq-eqb, ne_eqb}
use Rattle.model.specs.Graph.{Graph, Lawful}
use Rattle.model.specs.Schedule.{Schedule, Feasible, makespan}
use Rattle.model.specs.Partial.{Partial, Free, start_on, append}
use Rattle.model.specs.NormalForm.{Renaming, Renamed, OnMachines}
use Rattle.model.specs.Reachable.{Reachable, Empty}
use Rattle.model.specs.Completion.{Completion, on_renamed}
use Rattle.model.specs.Children.{child}
use borrow.Author.Clash.{clash}
use Rattle.model.proofs.Range.{put_same, put_other}
use Rattle.model.proofs.Renamings.{renaming-inj, matching}
use Rattle.model.proofs.Naming.{form-renamed}
use Rattle.model.proofs.Rules.{finish-has, finish-le, reachable-obeys, append-obeys}
use Rattle.model.proofs.Starts.{lawful-dag}

pub empty-completed : (g : Graph) (s : Partial) (p : Schedule) → Empty g s → Feasible g p → Completion g s p
empty-completed g s p E M = record {
  feasible = M;
  keeps = λ t h q. clash (s.placed t) q (E t h);
  later = λ t h q. let a = finish-le g s (p.machine t) 0 (λ u hu pu mu. clash (s.placed u) pu (E u hu)) in omega arith;
}

-- a renaming keeps apart what is apart
eqb-renamed : {p : ℕ} (π : Renaming p) (a b : ℕ) → eqb (π.to a) (π.to b) ≡ eqb a b
eqb-renamed π a b =
    elim (ℕ_discrete a b) [
      | yes e ↦ eq-eqb (π.to a) (π.to b) (ap π.to e) ∙ sym (eq-eqb a b e)
      | no ne ↦ ne_eqb (π.to a) (π.to b) (λ e. ne (renaming-inj π a b e)) ∙ sym (ne_eqb a b ne)
    ]

renamed-feasible : (g : Graph) (π : Renaming g.machines) (p : Schedule) → Feasible g p → Feasible g (on_renamed π p)
renamed-feasible g π p M = record {
  on = λ t h. π.low _ (M.on t h);
  starts = M.starts;
  after = λ k h. rw (eqb-renamed π (p.machine (g.from k)) (p.machine (g.to k))) (M.after k h);
  apart = λ a b ha hb ne e. M.apart a b ha hb ne (renaming-inj π _ _ e);
}

-- what completes s completes, renamed, s renamed
pub renamed-completion : (g : Graph) (π : Renaming g.machines) (s c : Partial) (p : Schedule)
    → ((t : ℕ) → t < g.tasks → c.placed t ≡ s.placed t)
    → ((t : ℕ) → t < g.tasks → s.placed t ≡ true → c.start t ≡ s.start t)
    → ((t : ℕ) → t < g.tasks → s.placed t ≡ true → c.machine t ≡ π.to (s.machine t))
    → Completion g s p → Completion g c (on_renamed π p)
renamed-completion g π s c p hp hs hm C = record {
  feasible = renamed-feasible g π p C.feasible;
  keeps = λ t ht hc. let q : s.placed t ≡ true = sym (hp t ht) ∙ hc in
      let K = C.keeps t ht q in
      (ap π.to K.0 ∙ sym (hm t ht q), K.1 ∙ sym (hs t ht q));
  later = λ t ht hc. finish-le g c (π.to (p.machine t)) (p.start t) (λ u hu cu mu.
      let q : s.placed u ≡ true = sym (hp u hu) ∙ cu in
      let e : s.machine u ≡ p.machine t = renaming-inj π _ _ (sym (hm u hu q) ∙ mu) in
      omega (arith, finish-has g s (p.machine t) u hu q e, C.later t ht (sym (hp t ht) ∙ hc), hs u hu q));
}

pub match-completion : (g : Graph) (s c : Partial) (p : Schedule) → Renamed g s c → Completion g s p → (π : Renaming g.machines) × Completion g c (on_renamed π p)
match-completion g s c p R C =
    let low : OnMachines g s = λ t h q. rw (C.keeps t h q).0 at (C.feasible.on t h) in
    let m = matching g s c low R g.tasks (omega arith) in
    (m.0, renamed-completion g m.0 s c p R.tasks R.starts m.1 C)

renamed-back : (g : Graph) (s c : Partial) → OnMachines g s → Renamed g s c → Renamed g c s
renamed-back g s c on R = record {
  tasks = λ t h. sym (R.tasks t h);
  starts = λ t h q. sym (R.starts t h (sym (R.tasks t h) ∙ q));
  low = λ t h q. on t h (sym (R.tasks t h) ∙ q);
  joint = λ t u ht hu qt qu. let J = R.joint t u ht hu (sym (R.tasks t ht) ∙ qt) (sym (R.tasks u hu) ∙ qu) in (J.1, J.0);
}

-- what completes s with a task appended completes s
appended-completion : (g : Graph) (s : Partial) (t m : ℕ) (p : Schedule) → Free g s t → Completion g (append g s t m) p → Completion g s p
unfolding append
appended-completion g s t m p F C = record {
  feasible = C.feasible;
  keeps = λ u hu q.
      let ne : u ≢ t = λ e. clash (s.placed t) (sym (ap s.placed e) ∙ q) F.1 in
      let K = C.keeps u hu (put_other s.placed t true u ne ∙ q) in
      (K.0 ∙ put_other s.machine t m u ne, K.1 ∙ put_other s.start t at u ne);
  later = λ u hu q. elim (ℕ_discrete u t) [
    | yes e ↦ let K = C.keeps u hu (put_same s.placed t true u e) in
        let a : p.start u ≡ at = K.1 ∙ put_same s.start t at u e in
        rw (K.0 ∙ put_same s.machine t m u e) (omega (arith, a))
    | no ne ↦ finish-le g s (p.machine u) (p.start u) (λ w hw qw mw.
        let nw : w ≢ t = λ e. clash (s.placed t) (sym (ap s.placed e) ∙ qw) F.1 in
        omega (
          arith,
          put_other s.start t at w nw,
          C.later u hu (put_other s.placed t true u ne ∙ q),
          finish-has g (append g s t m) (p.machine u) w hw (put_other s.placed t true w nw ∙ qw) (put_other s.machine t m w nw ∙ mw),
        ))
  ];
}
  where
    at : ℕ
    at = start_on g s t m

pub child-completion : (g : Graph) (s : Partial) (t m : ℕ) (p : Schedule) → Lawful g → Reachable g s → Free g s t → m < g.machines → Completion g (child g s (t, m)) p
    → (π : Renaming g.machines) × Completion g s (on_renamed π p) × (makespan g (on_renamed π p) ≡ makespan g p)
child-completion g s t m p L R F h C =
    let a : Partial = append g s t m in
    let on : OnMachines g a = (append-obeys g s t m (reachable-obeys g (lawful-dag L) R) F h).on in
    let x = match-completion g (child g s (t, m)) a p (renamed-back g a (child g s (t, m)) on (form-renamed g a on)) C in
    (x.0, appended-completion g s t m (on_renamed x.0 p) F x.1, refl)
