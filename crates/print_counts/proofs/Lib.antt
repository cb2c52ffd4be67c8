mod SlotCountLaws
