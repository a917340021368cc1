use Rattle.std.proofs.Common.{◌≡◌, ℕ, zero, suc, ◌+◌, ◌<◌, ◌≤◌, Bool, true, false, ◌≢◌, sym, refl, ap, ◌∙◌, arith}
use native.Mathlib.Decide.{ℕ_discrete, dec_lt}
use Rattle.model.specs.Range.{put}
use Rattle.model.specs.Graph.{Graph}
use Rattle.model.specs.Partial.{Partial}
use Rattle.model.specs.NormalForm.{Normal, Names, note, naming, normal_form, Renamed, OnMachines, Same, Renames}
use borrow.Author.Clash.{clash}
use Rattle.model.proofs.Range.{put_same, put_other}
use Rattle.model.proofs.Counting.{missing, missing-put, all-missing}
use Rattle.model.proofs.Renamings.{matching}

-- what naming keeps true of the tasks below t
record Kept (g : Graph) (s : Partial) (t : ℕ) (n : Names) : Type 0 where
  room : missing n.seen g.machines + n.next ≡ g.machines
  low : (m : ℕ) → n.seen m ≡ true → n.name m < n.next
  inj : (a b : ℕ) → n.seen a ≡ true → n.seen b ≡ true → n.name a ≡ n.name b → a ≡ b
  has : (u : ℕ) → u < t → s.placed u ≡ true → n.seen (s.machine u) ≡ true
  from : (k : ℕ) → k < n.next → (u : ℕ) × (u < t) × (s.placed u ≡ true) × (n.name (s.machine u) ≡ k)
  order : (u k : ℕ) → u < t → s.placed u ≡ true → k < n.name (s.machine u) → (v : ℕ) × (v < u) × (s.placed v ≡ true) × (n.name (s.machine v) ≡ k)

module _ (g : Graph) (s : Partial) (on : (t : ℕ) → t < g.tasks → s.placed t ≡ true → s.machine t < g.machines) where
  kept : (t : ℕ) → t ≤ g.tasks → Kept g s t (naming s t)
  kept zero h = record {
    room = omega (arith, all-missing g.machines);
    low = λ m q. clash false q refl;
    inj = λ a b q. clash false q refl;
    has = λ u l. absurd (omega arith);
    from = λ k l. absurd (omega arith);
    order = λ u k l. absurd (omega arith);
  }
  kept (suc t) h = go (naming s t) (kept t (omega arith)) (s.placed t) refl
    where
      old : (n : Names) → Kept g s t n → ((k : ℕ) → s.placed t ≡ true → (n.seen (s.machine t) ≡ true)) → Kept g s (suc t) n
      old n K q = record {
        room = K.room;
        low = K.low;
        inj = K.inj;
        has = λ u l p. elim (ℕ_discrete u t) [ yes e ↦ rw e (q 0 (sym (ap s.placed e) ∙ p)) | no ne ↦ K.has u (omega arith) p ];
        from = λ k l. let x = K.from k l in (x.0, omega (arith, x.1), x.2, x.3);
        order = λ u k l p w. elim (ℕ_discrete u t) [
          | yes e ↦ let x = K.from k (omega (arith, ap (λ u. n.name (s.machine u)) e, K.low (s.machine t) (q 0 (sym (ap s.placed e) ∙ p)))) in (x.0, omega (arith, x.1), x.2, x.3)
          | no ne ↦ K.order u k (omega arith) p w
        ];
      }

      new : (n : Names) → Kept g s t n → s.placed t ≡ true → n.seen (s.machine t) ≡ false → Kept g s (suc t) (record { seen = put n.seen (s.machine t) true; name = put n.name (s.machine t) n.next; next = n.next + 1 })
      new n K q f = record {
        room = omega (arith, K.room, missing-put n.seen m g.machines (on t (omega arith) q) f);
        low = λ a p. elim (ℕ_discrete a m) [ yes e ↦ rw (put_same n.name m n.next a e) (omega arith) | no ne ↦ rw (put_other n.name m n.next a ne) (omega (arith, K.low a (was a ne p))) ];
        inj = λ a b pa pb e. elim (ℕ_discrete a m) [
          | yes ea ↦ elim (ℕ_discrete b m) [
            | yes eb ↦ ea ∙ sym eb
            | no nb ↦ absurd (omega (arith, e, put_same n.name m n.next a ea, put_other n.name m n.next b nb, K.low b (was b nb pb)))
          ]
          | no na ↦ elim (ℕ_discrete b m) [
            | yes eb ↦ absurd (omega (arith, e, put_same n.name m n.next b eb, put_other n.name m n.next a na, K.low a (was a na pa)))
            | no nb ↦ K.inj a b (was a na pa) (was b nb pb) (sym (put_other n.name m n.next a na) ∙ e ∙ put_other n.name m n.next b nb)
          ]
        ];
        has = λ u l p. elim (ℕ_discrete (s.machine u) m) [ yes e ↦ put_same n.seen m true (s.machine u) e | no ne ↦ put_other n.seen m true (s.machine u) ne ∙ K.has u (less u l ne) p ];
        from = λ k l. elim (ℕ_discrete k n.next) [
          | yes e ↦ (t, omega arith, q, put_same n.name m n.next m refl ∙ sym e)
          | no ne ↦ let x = K.from k (omega arith) in (x.0, omega (arith, x.1), x.2, keep x.0 x.1 x.2 ∙ x.3)
        ];
        order = λ u k l p w. elim (ℕ_discrete u t) [
          | yes e ↦ let x = K.from k (omega (arith, ap (λ u. put n.name m n.next (s.machine u)) e, put_same n.name m n.next m refl)) in (x.0, omega (arith, x.1), x.2, keep x.0 x.1 x.2 ∙ x.3)
          | no ne ↦ let ul : u < t = omega arith in
              let x = K.order u k ul p (omega (arith, keep u ul p)) in (x.0, x.1, x.2, keep x.0 (omega (arith, x.1)) x.2 ∙ x.3)
        ];
      }
        where
          m : ℕ
          m = s.machine t

          was : (a : ℕ) → a ≢ s.machine t → put n.seen (s.machine t) true a ≡ true → n.seen a ≡ true
          was a ne p = sym (put_other n.seen (s.machine t) true a ne) ∙ p

          less : (u : ℕ) → u < suc t → s.machine u ≢ s.machine t → u < t
          less u l ne = elim (ℕ_discrete u t) [ yes e ↦ absurd (ne (ap s.machine e)) | no z ↦ omega arith ]

          keep : (u : ℕ) → u < t → s.placed u ≡ true → put n.name (s.machine t) n.next (s.machine u) ≡ n.name (s.machine u)
          keep u l p = put_other n.name (s.machine t) n.next (s.machine u) (λ e. clash (n.seen (s.machine t)) (sym (ap n.seen e) ∙ K.has u l p) f)

      go : (n : Names) → Kept g s t n → (b : Bool) → s.placed t ≡ b → Kept g s (suc t) (note (s.machine t) (s.placed t) n)
      go n K false e = rw e (old n K (λ k q. clash (s.placed t) q e))
      go n K true e = rw e (seen (n.seen (s.machine t)) refl)
        where
          seen : (b : Bool) → n.seen (s.machine t) ≡ b → Kept g s (suc t) (note (s.machine t) true n)
          seen true f = rw f (old n K (λ k q. f))
          seen false f = rw f (new n K e f)

  -- renaming keeps what lies together, and names as the rule says
  pub form-renamed : Renamed g s (normal_form g s)
  unfolding normal_form
  form-renamed = let K = kept g.tasks (omega arith) in record {
    tasks = λ t h. refl;
    starts = λ t h q. refl;
    low = λ t h q. rw q (omega (arith, K.room, K.low (s.machine t) (K.has t h q)));
    joint = λ t u ht hu qt qu. rw (qt, qu) (ap (naming s g.tasks).name, K.inj (s.machine t) (s.machine u) (K.has t ht qt) (K.has u hu qu));
  }

  pub form-normal : Normal g (normal_form g s)
  unfolding normal_form
  form-normal t k h q l =
      let x = (kept g.tasks (omega arith)).order t k h q (rw q at l) in
      (x.0, x.1, x.2, rw x.2 x.3)

-- only one naming fits
pub normal-once : (g : Graph) (s c : Partial) → Renamed g s c → Normal g s → Normal g c → (n t : ℕ) → t < n → t < g.tasks → s.placed t ≡ true → c.machine t ≡ s.machine t
normal-once g s c R A B zero t h ht p = absurd (omega arith)
normal-once g s c R A B (suc n) t h ht p = go (normal-once g s c R A B n)
  where
    go : ((t : ℕ) → t < n → t < g.tasks → s.placed t ≡ true → c.machine t ≡ s.machine t) → c.machine t ≡ s.machine t
    go ih = elim (dec_lt (c.machine t) (s.machine t)) [
      | yes l ↦ let x = A t (c.machine t) ht p l in
          let hu : x.0 < g.tasks = omega (arith, x.1) in
          let e = ih x.0 (omega (arith, x.1)) hu x.2 in
          absurd (omega (arith, x.3, (R.joint x.0 t hu ht x.2 p).1 (e ∙ x.3)))
      | no l ↦ elim (dec_lt (s.machine t) (c.machine t)) [
        | yes l2 ↦ let x = B t (s.machine t) ht (R.tasks t ht ∙ p) l2 in
            let hu : x.0 < g.tasks = omega (arith, x.1) in
            let q : s.placed x.0 ≡ true = sym (R.tasks x.0 hu) ∙ x.2 in
            let e = ih x.0 (omega (arith, x.1)) hu q in
            absurd (omega (arith, x.3, (R.joint x.0 t hu ht q p).0 (sym e ∙ x.3)))
        | no l2 ↦ omega arith
      ]
    ]

pub form-renames : (g : Graph) (s : Partial) → OnMachines g s → Renames g s (normal_form g s)
form-renames g s o = matching g s (normal_form g s) o (form-renamed g s o) g.tasks (omega arith)

-- what is renamed from one partial schedule is renamed from another
forms : (g : Graph) (s c a b : Partial) → Renamed g s c → Renamed g s a → Renamed g c b → Renamed g a b
forms g s c a b R A B = record {
  tasks = λ t h. B.tasks t h ∙ R.tasks t h ∙ sym (A.tasks t h);
  starts = λ t h q. let p : s.placed t ≡ true = sym (A.tasks t h) ∙ q in B.starts t h (R.tasks t h ∙ p) ∙ R.starts t h p ∙ sym (A.starts t h p);
  low = λ t h q. B.low t h (R.tasks t h ∙ sym (A.tasks t h) ∙ q);
  joint = λ t u ht hu qt qu.
      let pt : s.placed t ≡ true = sym (A.tasks t ht) ∙ qt in
      let pu : s.placed u ≡ true = sym (A.tasks u hu) ∙ qu in
      let ct : c.placed t ≡ true = R.tasks t ht ∙ pt in
      let cu : c.placed u ≡ true = R.tasks u hu ∙ pu in (
        (λ e. (B.joint t u ht hu ct cu).0 ((R.joint t u ht hu pt pu).0 ((A.joint t u ht hu pt pu).1 e))),
        (λ e. (A.joint t u ht hu pt pu).0 ((R.joint t u ht hu pt pu).1 ((B.joint t u ht hu ct cu).1 e))),
      );
}

-- partial schedules that differ by a renaming of machines have one normal form
pub one_form : (g : Graph) (s c : Partial) → OnMachines g s → Renamed g s c → Same g (normal_form g c) (normal_form g s)
one_form g s c o R =
    let oc : OnMachines g c = λ u hu q. R.low u hu (sym (R.tasks u hu) ∙ q) in
    let F = forms g s c (normal_form g s) (normal_form g c) R (form-renamed g s o) (form-renamed g c oc) in
    record {
      tasks = F.tasks;
      machines = λ t h p. normal-once g (normal_form g s) (normal_form g c) F (form-normal g s o) (form-normal g c oc) g.tasks t h h p;
      starts = F.starts;
    }
