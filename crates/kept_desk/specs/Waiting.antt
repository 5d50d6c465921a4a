-- Who waits until a version is published (ours): the questions that are asked meanwhile, and the sleeps between them.
use Rattle.std.specs.Prelude.{ℕ, ◌≡◌, Bool, true, false, Option, Some, None, nat_le}
use Rattle.desk_core.specs.declared.{calls.Call.{Call, TheVariants.Ask}, calls.Question.TheVariants.Status, replies.Reply.Reply, replies.Reply.TheVariants.StatusIs}
use Rattle.kept_desk.specs.declared.ends.Woken.{Woken, TheVariants.{Delivered, TimeUp}}

-- whether a version or a later one is published
abbrev pub is_reached : ℕ → Option ℕ → Bool
is_reached version (Some published) = nat_le version published
is_reached version None = false

-- whether nothing is to be waited for behind a reply: it shows that, or it is no status
abbrev pub is_shown : ℕ → Reply → Bool
is_shown version (StatusIs desk published rows) = is_reached version published
is_shown version reply = true

module _ {C E : Type 0} (makes : C → Call → Reply → C → Type 0) (sleeps : E → ℕ → Woken → E → Type 0) where
  -- the status was asked for, which did not show the version; and then a sleep ended so
  pub record SleepsOnce (version : ℕ) (woken : Woken) (desk : C) (sleeper : E) (next : C) (after : E) : Type 0 where
    pub reply : Reply
    pub asked : makes desk (Ask Status) reply next
    pub earlier : is_shown version reply ≡ false
    pub slept : sleeps sleeper version woken after

  -- this was so some times, and each sleep ended since the version was delivered
  pub data SleepsOn (version : ℕ) (desk : C) (sleeper : E) : C → E → Type 0 where
    not_yet : SleepsOn version desk sleeper desk sleeper
    once_more : (middle next : C) (between after : E) → SleepsOn version desk sleeper middle between → SleepsOnce version Delivered middle between next after → SleepsOn version desk sleeper next after

  -- what is answered: a reply that shows the version; or the one behind a sleep whose time was up
  pub data AwaitsPublication (version : ℕ) (desk : C) (sleeper : E) (reply : Reply) (next : C) (after : E) : Type 0 where
    shown : (middle : C) → SleepsOn version desk sleeper middle after → makes middle (Ask Status) reply next → is_shown version reply ≡ true → AwaitsPublication version desk sleeper reply next after
    time_up : (middle last : C) (between : E) → SleepsOn version desk sleeper middle between → SleepsOnce version TimeUp middle between last after → makes last (Ask Status) reply next →
        AwaitsPublication version desk sleeper reply next after
