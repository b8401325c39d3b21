mod EightLaws
