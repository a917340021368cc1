use Rattle.std.proofs.Common.{◌≡◌, ℕ, zero, suc, refl, arith}
use Rattle.model.specs.Schedule.{Schedule}
use Rattle.search.proofs.Written.{Agree}
use Rattle.page.specs.Texts.{Page, task_lines, report_text}

-- The text of a page reads the schedule at the graph's tasks alone.

abbrev told : Page → Schedule → Page
told p s = record p { schedule = s }

lines-agree : (p : Page) (s u : Schedule) (n : ℕ) → Agree s u n → task_lines (told p s) n ≡ task_lines (told p u) n
lines-agree p s u zero h = refl
lines-agree p s u (suc n) h = let a = h n (omega arith) in rw (lines-agree p s u n (λ t k. h t (omega (arith, k))), a.0, a.1) refl

pub text-agrees : (p : Page) (s u : Schedule) → Agree s u p.graph.tasks → report_text (record p { schedule = s }) ≡ report_text (record p { schedule = u })
unfolding report_text
text-agrees p s u h = rw (lines-agree p s u p.graph.tasks h) refl
