-- `clear_behind` meets its contract: each table is cleared behind its rows.
use Rattle.star_read.proofs.clear_behind.Goals as goal

pub returns-clause-cleared : goal.returns-clause-cleared
returns-clause-cleared c =
    record { sets = c.clear_from.ensures 0 (λ _ e. e); names = c.clear_from-2.ensures 0 (λ _ e. e); packets = c.clear_from-3.ensures 0 (λ _ e. e); values = c.clear_from-4.ensures 0 (λ _ e. e) }
