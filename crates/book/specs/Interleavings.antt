-- Any list of atomic steps of workers and operators on a service. The world is one history, and what each actor holds. What a step gives, and the world after it, are such as the clause of its call says.
use Rattle.std.specs.Prelude.{◌≡◌, ℕ, ◌^◌, ◌<◌, ◌==◌, if◌then◌else◌, List, [], ◌∷◌, ◌++◌, map, slice_get, Option, Some, None, Ok}
use Rattle.std.specs.List.{AllByRecursion}
use Rattle.bpf_profile.specs.Limits.{record_size}
use Rattle.bpf_profile.specs.Outcomes.{Outcome, IsOutcome}
use Rattle.bpf_profile.specs.JudgedWork.{JudgedData}
use Rattle.bpf_profile.specs.Programs.{VerifiedProgram}
use Rattle.service_profile.specs.Calls.{CallData, CallAnswer, IsCalledBy, IsCalled}
use Rattle.service_profile.specs.Calls as call
use Rattle.service_profile.specs.Events.{finishes, Opening, History, history_of}
use Rattle.service_profile.specs.Histories.{past_of, IsLegal}
use Rattle.service_profile.specs.Machine.{Judging}
use Rattle.service_profile.specs.Verdicts.{judgement}
use Rattle.book.specs.Accepted.{Accepting, IsJudged, IsEvent}
use Rattle.book.specs.Sound.{IsSound}

-- programs that an actor was given, and work that it judged
pub record Hands : Type 0 where
  pub programs : List VerifiedProgram
  pub works : List JudgedData

pub record World : Type 0 where
  pub history : History
  pub hands : ℕ → Hands

-- a call of the book; the judging of an outcome by a program in the actor's hands; or the report of work in its hands, at a moment, with any ticket. Programs and works are named by their place in the hands
pub data Step : Type 0 where
  calls : CallData → Step
  judge : ℕ → Outcome → Step
  finish : ℕ → ℕ → ℕ → Step

-- what a step gives its actor
pub data Given : Type 0 where
  answered : CallAnswer → Given
  nothing : Given

-- ---- one step: what it gives, and the world after it

-- one actor holds something else
abbrev pub holding : (ℕ → Hands) → ℕ → Hands → ℕ → Hands
holding all actor own other = if other == actor then own else all other

-- a program that is found is in the actor's hands
abbrev pub with_answer : (ℕ → Hands) → ℕ → CallAnswer → ℕ → Hands
with_answer all actor (call.finds (Ok program)) = holding all actor (record { programs = (all actor).programs ++ program ∷ []; works = (all actor).works })
with_answer all actor other = all

-- verdict and steps are the meaning's
abbrev pub work_of : VerifiedProgram → Outcome → JudgedData
work_of program outcome = record { program = program; outcome = outcome; verdict = (judgement program outcome).verdict; steps = (judgement program outcome).steps }

-- judging touches nothing but the actor's hands
abbrev pub with_judged : (ℕ → Hands) → ℕ → Outcome → Option VerifiedProgram → ℕ → Hands
with_judged all actor outcome None = all
with_judged all actor outcome (Some program) = holding all actor (record { programs = (all actor).programs; works = (all actor).works ++ work_of program outcome ∷ [] })

-- what the clause of the call says; and what it found is in the actor's hands
abbrev pub IsAnswered : Judging → World → ℕ → CallData → CallAnswer → World → Type 0
IsAnswered judging w actor c given after = IsCalledBy judging actor w.history c given after.history × (after.hands ≡ with_answer w.hands actor given)

-- a finish brings any work of its actor with any ticket; without work nothing happens
abbrev pub IsFinish : Judging → World → ℕ → ℕ → ℕ → Option JudgedData → Given → World → Type 0
IsFinish judging w actor moment ticket None nothing after = after ≡ w
IsFinish judging w actor moment ticket (Some work) (answered given) after = IsAnswered judging w actor (call.applies moment (finishes work ticket)) given after
IsFinish judging w actor moment ticket work given after = ⊥

abbrev pub IsTaken : Judging → World → ℕ → Step → Given → World → Type 0
IsTaken judging w actor (calls c) (answered given) after = IsAnswered judging w actor c given after
IsTaken judging w actor (judge place outcome) nothing after = after ≡ record { history = w.history; hands = with_judged w.hands actor outcome (slice_get (w.hands actor).programs place) }
IsTaken judging w actor (finish moment place ticket) given after = IsFinish judging w actor moment ticket (slice_get (w.hands actor).works place) given after
IsTaken judging w actor step given after = ⊥

-- ---- lists of steps

pub record Act : Type 0 where
  pub actor : ℕ
  pub step : Step

-- the steps one after another, by any actors in any order, with what each gives, and the world in the end
abbrev pub IsCourse : Judging → World → List Act → List Given → World → Type 0
IsCourse judging w [] [] after = after ≡ w
IsCourse judging w (act ∷ acts) (given ∷ more) after = (next : World) × IsTaken judging w act.actor act.step given next × IsCourse judging next acts more after
IsCourse judging w acts all after = ⊥

-- before the first step nobody holds anything
abbrev pub begun : Opening → World
begun opening = record { history = history_of opening []; hands = λ actor. record { programs = []; works = [] } }

-- moments are words, actors are seats of 32 bits, outcomes are records, and what is installed is accepted
abbrev pub IsStep : Accepting → Step → Type 0
IsStep accepts (calls (call.applies moment event)) = (moment < 2 ^ 64) × IsEvent accepts event
IsStep accepts (calls (call.reads moment)) = moment < 2 ^ 64
IsStep accepts (calls other) = Unit {0}
IsStep accepts (judge place outcome) = IsOutcome record_size outcome
IsStep accepts (finish moment place ticket) = moment < 2 ^ 64

abbrev pub AreSteps : Accepting → List Act → Type 0
AreSteps accepts acts = AllByRecursion (λ act. (act.actor < 2 ^ 32) × IsStep accepts act.step) acts

-- what an actor holds throughout
pub record AreHands (accepts : Accepting) (own : Hands) : Type 0 where
  pub programs : AllByRecursion accepts own.programs
  pub works : AllByRecursion (IsJudged accepts) own.works

-- the history is legal and sound, and all programs and all work that actors hold are accepted and judged
pub record IsWorld (accepts : Accepting) (w : World) : Type 0 where
  pub legal : IsLegal w.history
  pub sound : IsSound accepts (past_of w.history)
  pub hands : (actor : ℕ) → AreHands accepts (w.hands actor)

-- a call of a book, and the seat that makes it
pub record Driven : Type 0 where
  pub seat : ℕ
  pub call : CallData

-- what a book answers to each of them, as the clause of the call says, and the history that is left in the end
abbrev pub AreCalled : History → List Driven → List CallAnswer → History → Type 0
AreCalled history [] [] after = after ≡ history
AreCalled history (one ∷ asked) (given ∷ more) after = (next : History) × IsCalled one.seat history one.call given next × AreCalled next asked more after
AreCalled history asked all after = ⊥

-- the same as steps of workers and operators
abbrev pub acts_of : List Driven → List Act
acts_of asked = map (λ one. record { actor = one.seat; step = calls one.call }) asked
